use Rattle.std.proofs.Common.{◌++◌, ◌∷◌, [], ap, sym, ◌∙◌}
use Rattle.eval_state.proofs.LabelPlaces.{put_after}
use Rattle.eval_state.proofs.labels.Labels.put.Goals as goal

pub returns-in_ok-push-in-None-clause-labels : goal.returns-in_ok-push-in-None-clause-labels
returns-in_ok-push-in-None-clause-labels c =
    let at = rw c.deref.ensures.value at c.in-None.ensures.value in
    rw (← c.self.view_is)
    (put_after c.self.inside.held.items c.push.new.self.items c.args.name.now c.args.text (sym at)
    (c.in_ok-push-in-None.ensures.items ∙ ap (λ label. c.self.inside.held.items ++ label ∷ []) c.in_ok-label.ensures))
