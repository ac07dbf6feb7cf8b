use Rattle.trie_build.proofs.Sizing.{over}
use Rattle.trie_build.proofs.size.names_fit.Goals as goal

pub returns-then-len-left : goal.returns-then-len-left
returns-then-len-left c = (
  λ h. cc,
  λ k. absurd (over c.args.names.now c.loop-name.name-index c.loop-name.left c.args.room _ c.loop-name-test.true c.loop-name.invariant c.if-len-left.true k),
)
