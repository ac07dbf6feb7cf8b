use Rattle.std.proofs.Common.{◌≡◌, map, take}
use Rattle.eval_courses.specs.Skipped.{skipped_change}
use Rattle.eval_courses.proofs.skipped.skipped_text.Given as goal

abbrev pub invariant-loop-assignment : goal.invariant-loop-assignment
invariant-loop-assignment l = l.reported.items ≡ map (λ a. skipped_change l.event a.change) (take l.assignment-index l.assignment-items)
