use Rattle.std.proofs.Common.{◌-◌, [], ◌∷◌, ◌++◌, map, filter, ap, sym, ◌∙◌}
use Rattle.std.specs.List.{list_any}
use Rattle.eval_rendering.specs.Subjects.{holds_at}
use Rattle.eval_courses.specs.Upward.{falling, partial_report}
use Rattle.eval_courses.proofs.Finding.{one_reported}
use Rattle.eval_courses.proofs.upward.partial_reports.Goals as goal

pub loop-place-preserved-in_ok-push : goal.loop-place-preserved-in_ok-push
loop-place-preserved-in_ok-push c =
    ap (λ texts. texts ++ map (partial_report c.args.parts.now c.args.state.now) (filter (λ place. list_any (holds_at c.args.state.now place) c.args.parts.now) (falling (c.loop-place.place - 1))))
    (c.in_ok-push.ensures.items ∙ ap (λ text. c.loop-place.texts.items ++ text ∷ []) c.in_ok-partial_report.ensures)
    ∙ one_reported c.args.parts.now c.args.state.now c.loop-place.texts.items c.loop-place.place c.loop-place-test.true (sym c.if-some_hold.ensures)
    ∙ c.loop-place.invariant
