use Rattle.std.proofs.Common.{◌≡◌, drop}
use Rattle.eval_unread.specs.Given.{first_plain}
use Rattle.eval_unread.proofs.given.first_plain.Given as goal

abbrev pub invariant-loop-part : goal.invariant-loop-part
invariant-loop-part l = first_plain (drop l.part-index l.parts) ≡ first_plain l.fn.parts
