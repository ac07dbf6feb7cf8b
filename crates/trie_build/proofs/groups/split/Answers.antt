use Rattle.std.proofs.Common.{◌+◌, refl}
use Rattle.trie_build.specs.Rows.{patterns}
use Rattle.trie_build.specs.declared.groups.Group.{Group}
use Rattle.trie_build.proofs.Splitting.{all_made, one_more, start}
use Rattle.trie_build.proofs.groups.split.Goals as goal

pub loop-at-init : goal.loop-at-init
loop-at-init c = start (patterns c.args.sorted.rows.now) c.requires.up c.args.group c.requires.group c.args.from c.requires.from c.args.groups.now.items

pub loop-at-preserved : goal.loop-at-preserved
loop-at-preserved c =
    let new : Group = record { start = c.loop-at.at; end = c.run_end-end.result; depth = c.args.group.depth + 1 } in
    one_more (patterns c.args.sorted.rows.now) c.requires.up c.args.group c.requires.group c.args.from c.requires.from c.loop-at.at c.run_end-end.result
    c.args.groups.now.items c.loop-at.groups.items c.push.new.self.items c.loop-at.invariant c.run_end-end.ensures.run new refl refl refl c.in_ok-push.ensures.items

pub returns : goal.returns
returns c =
    all_made (patterns c.args.sorted.rows.now) c.requires.up c.args.group c.requires.group c.args.from c.requires.from c.loop-at.at c.args.groups.now.items c.loop-at.groups.items c.loop-at.invariant
    c.loop-at-test.false
