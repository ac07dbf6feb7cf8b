use Rattle.std.proofs.Common.{◌≡◌, ◌≤◌, take}
use Rattle.eval_courses.specs.Upward.{hits}
use Rattle.eval_courses.proofs.upward.hits.Given as goal

abbrev pub invariant-loop-part : goal.invariant-loop-part
invariant-loop-part l = record {
  few : l.count ≤ l.part-index;
  counted : l.count ≡ hits (take l.part-index l.parts) l.state l.place;
}
