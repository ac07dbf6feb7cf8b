use Rattle.std.proofs.Common.{Bool, Option, Result, Ok, Err, OnErr, ap, ◌∙◌}
use Rattle.eval_state.specs.declared.scene.Scene.{Scene}
use Rattle.eval_acts.proofs.Staying.{performed_stays}
use Rattle.eval_acts.proofs.acting.act_noted.Goals as goal

-- what holds, holds after an error
on_err : {T E P : Type 0} (r : Result T E) → P → OnErr r P
on_err (Ok value) p = tt
on_err (Err fault) p = p

pub returns-in_err-note_too_long-clause-refused : goal.returns-in_err-note_too_long-clause-refused
returns-in_err-note_too_long-clause-refused g c =
    on_err _ (c.in_err-note_too_long.ensures.refused
    ∙ ap (λ (after : Scene × Option Bool). after.0.state.event) c.in_ok-done.ensures.scene
    ∙ performed_stays (g.K.Knowledge.known c.args.knowledge.now) c.args.rule.now c.args.act_kind.now c.args.scene.now)
