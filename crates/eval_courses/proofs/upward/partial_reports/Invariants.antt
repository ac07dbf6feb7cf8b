use Rattle.std.proofs.Common.{◌≡◌, ◌++◌, map, filter}
use Rattle.std.specs.List.{list_any}
use Rattle.eval_rendering.specs.Subjects.{holds_at}
use Rattle.eval_courses.specs.Upward.{falling, partial_report, partly}
use Rattle.eval_courses.proofs.upward.partial_reports.Given as goal

abbrev pub invariant-loop-place : goal.invariant-loop-place
invariant-loop-place l =
    l.texts.items ++ map (partial_report l.parts l.state) (filter (λ place. list_any (holds_at l.state place) l.parts) (falling l.place))
    ≡ map (partial_report l.parts l.state) (partly l.parts l.state)
