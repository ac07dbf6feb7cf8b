use Rattle.std.proofs.Common.{◌≡◌, map}
use Rattle.std.specs.List.{range_with_len}
use Rattle.eval_courses.specs.Upward.{device_report}
use Rattle.eval_courses.proofs.upward.device_reports.Given as goal

abbrev pub invariant-loop-place : goal.invariant-loop-place
invariant-loop-place l = l.texts.items ≡ map (device_report l.part l.state) (range_with_len 0 l.place)
