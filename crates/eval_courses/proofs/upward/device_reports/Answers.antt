use Rattle.std.proofs.Common.{◌≡◌, [], ◌∷◌, ◌++◌, map, arith, zero-add, ap, sym, ◌∙◌}
use Rattle.std.specs.List.{range_with_len}
use Rattle.std.proofs.lemmas.List.FromFn.{map-range_with_len_more}
use Rattle.eval_courses.specs.Upward.{device_report}
use Rattle.eval_courses.proofs.upward.device_reports.Goals as goal

pub loop-place-preserved : goal.loop-place-preserved
loop-place-preserved c =
    c.in_ok-push.ensures.items
    ∙ ap (λ text. c.loop-place.texts.items ++ text ∷ []) c.in_ok-device_report.ensures
    ∙ ap (λ texts. texts ++ device_report c.args.part.now c.args.state.now c.loop-place.place ∷ []) c.loop-place.invariant
    ∙ sym (map-range_with_len_more (device_report c.args.part.now c.args.state.now) 0 c.loop-place.place c.loop-place.place (zero-add c.loop-place.place))

pub returns : goal.returns
returns c =
    let at_end : c.loop-place.place ≡ c.device_count-place-end.result = omega arith in
    c.loop-place.invariant
    ∙ ap (λ n. map (device_report c.args.part.now c.args.state.now) (range_with_len 0 n)) (at_end ∙ c.device_count-place-end.ensures)
