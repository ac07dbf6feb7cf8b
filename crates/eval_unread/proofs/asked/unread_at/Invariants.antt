use Rattle.std.proofs.Common.{◌≡◌, drop}
use Rattle.eval_unread.specs.Unread.{unread_at}
use Rattle.eval_unread.proofs.asked.unread_at.Given as goal

abbrev pub invariant-loop-part : goal.invariant-loop-part
invariant-loop-part l = unread_at (drop l.part-index l.parts) l.state l.place ≡ unread_at l.fn.parts l.fn.state l.fn.place
