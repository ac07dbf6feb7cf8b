use Rattle.std.proofs.Common.{◌∙◌, ap, drop, sym}
use Rattle.std.proofs.lemmas.Result.{on_ok_weaker}
use Rattle.eval_effects.proofs.Fronts.{changes_after}
use Rattle.eval_effects.proofs.runs.push_run_changes.Goals as goal

pub returns : goal.returns
returns c =
    on_ok_weaker c.push_missing-2.result
    (λ h. changes_after _ _ _ c.args.was.now c.args.now.now _ _ (sym c.is_empty.ensures ∙ c.if-is_empty.false)
    (c.split_at.ensures.back ∙ ap (λ n. drop n c.args.was.now) c.same_front.ensures.value)
    (c.split_at-2.ensures.back ∙ ap (λ n. drop n c.args.now.now) c.same_front-2.ensures.value)
    c.in_ok-push_missing.ensures h)
    c.push_missing-2.ensures
