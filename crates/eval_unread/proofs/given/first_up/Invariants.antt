use Rattle.std.proofs.Common.{◌≡◌, drop}
use Rattle.eval_unread.specs.Given.{first_up}
use Rattle.eval_unread.proofs.given.first_up.Given as goal

abbrev pub invariant-loop-part : goal.invariant-loop-part
invariant-loop-part l = first_up (drop l.part-index l.parts) ≡ first_up l.fn.parts
