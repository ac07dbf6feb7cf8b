use Rattle.std.proofs.Common.{◌∷◌, ◌++◌, ap, sym, ◌∙◌}
use Rattle.std.proofs.lemmas.Result.{on_ok_weaker}
use Rattle.engine_sessions.proofs.ToldText.{events_given}
use Rattle.engine_sessions.proofs.hearing.count_block.Goals as goal

-- src/hearing.rt:26:1
pub returns-in-Ok : goal.returns-in-Ok
returns-in-Ok g c =
    on_ok_weaker c.count-counted.result
    (λ told later. told later ∙ ap (λ event. g.T.Tally.says c.args.tally.now (event ∷ later)) c.with_profile-event.ensures
    ∙ ap (λ events. g.T.Tally.says c.args.tally.now (events ++ later)) (sym (events_given c.args.profile c.args.block.now c.in-Ok.event c.in-Ok.ensures.event)))
    c.count-counted.ensures
