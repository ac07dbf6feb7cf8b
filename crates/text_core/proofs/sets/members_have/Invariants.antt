use Rattle.std.proofs.Common.{◌≡◌, length}
use Rattle.text_core.specs.Sets.{members_have}
use Rattle.text_core.proofs.sets.members_have.Given as goal

abbrev pub invariant-loop-first : goal.invariant-loop-first
invariant-loop-first l = members_have l.fn.members l.byte ≡ members_have l.members l.byte

abbrev pub decreases-loop-first : goal.decreases-loop-first
decreases-loop-first l = length l.members
