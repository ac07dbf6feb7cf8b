use Rattle.std.proofs.Common.{◌≡◌, drop}
use Rattle.std.specs.List.{list_any}
use Rattle.eval_rendering.specs.Subjects.{holds_at}
use Rattle.eval_courses.proofs.upward.some_hold.Given as goal

abbrev pub invariant-loop-part : goal.invariant-loop-part
invariant-loop-part l = list_any (holds_at l.state l.place) (drop l.part-index l.parts) ≡ list_any (holds_at l.fn.state l.fn.place) l.fn.parts
