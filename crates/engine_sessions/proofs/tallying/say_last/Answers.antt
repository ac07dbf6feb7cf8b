use Rattle.std.proofs.Common.{rules, ◌∙◌, inl, inr, subst}
use Rattle.engine_sessions.specs.Delivery.{ReportsFailure, write_failed}
use Rattle.engine_sessions.specs.Sinks.{BreaksOff}
use Rattle.engine_sessions.proofs.tallying.say_last.Goals as goal

pub returns-in-Ok : goal.returns-in-Ok
returns-in-Ok g c =
    let reports : ReportsFailure write_failed 3 c.report_failure.result (g.E.Sink.shown c.args.error.now) (g.E.Sink.shown c.report_failure.new.error) = search rules in
    let breaks : BreaksOff (g.W.Sink.shown c.args.output.now) c.as_slice.result.now (g.W.Sink.shown c.hand_on.new.sink) = search rules in
    inr (inl (subst (λ t. BreaksOff (g.W.Sink.shown c.args.output.now) t (g.W.Sink.shown c.hand_on.new.sink)) (c.as_slice.ensures ∙ c.in-Ok.ensures) breaks, reports))
