use Rattle.std.proofs.Common.{◌<◌, arith, length, subst}
use Rattle.trie_build.specs.Rows.{patterns}
use Rattle.trie_build.proofs.Splitting.{split_at}
use Rattle.trie_build.proofs.groups.longer_from.Goals as goal

pub returns-then-len-group-clause-split : goal.returns-then-len-group-clause-split
returns-then-len-group-clause-split c =
    split_at (patterns c.args.rows.now) c.requires.sorted c.args.group c.requires.group c.loop-at.at c.loop-at.invariant.started c.loop-at-test.true c.loop-at.invariant.own
    (subst (λ p. c.args.group.depth < length p) c.items_at.ensures (omega arith))
