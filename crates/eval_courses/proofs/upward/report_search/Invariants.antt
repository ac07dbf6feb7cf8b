use Rattle.std.proofs.Common.{◌≡◌, ◌++◌, take, map}
use Rattle.eval_courses.specs.Upward.{up_report}
use Rattle.eval_courses.proofs.upward.report_search.Given as goal

abbrev pub invariant-loop-part : goal.invariant-loop-part
invariant-loop-part l = l.texts.items ≡ l.initial.texts.items ++ map (λ part. up_report part l.state) (take l.part-index l.parts)
