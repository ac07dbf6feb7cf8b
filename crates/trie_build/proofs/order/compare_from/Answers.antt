use Rattle.std.proofs.Common.{◌∙◌, arith, sym}
use Rattle.trie_build.proofs.PlaceLemmas.{longer, shorter}
use Rattle.trie_build.proofs.order.compare_from.Goals as goal

pub returns-then-next-len : goal.returns-then-next-len
returns-then-next-len c = sym (longer c.args.pattern.now c.args.other.now c.loop-at.at c.loop-at.next (omega arith) (omega arith)) ∙ c.loop-at.invariant.left

pub returns-else-next-len-2 : goal.returns-else-next-len-2
returns-else-next-len-2 c = sym (shorter c.args.pattern.now c.args.other.now c.loop-at.at c.loop-at.next (omega arith) (omega arith)) ∙ c.loop-at.invariant.left
