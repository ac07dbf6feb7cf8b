use Rattle.std.proofs.Common.{rules, ◌&&◌, Ok, Err, inr, subst}
use Rattle.engine_sessions.specs.Sinks.{HandsOn}
use Rattle.engine_sessions.specs.Serves.{EndsWell}
use Rattle.engine_sessions.proofs.following.answer_in_steps.Goals as goal

pub returns-in-Ok : goal.returns-in-Ok
returns-in-Ok g c =
    let says : HandsOn (g.E.Sink.shown c.args.error.now) c.args.messages.now (g.E.Sink.shown c.hand_on.new.sink) = search rules in
    inr (record {
      after = g.E.Sink.shown c.hand_on.new.sink;
      says = says;
      end = Ok tt;
      answers = c.in-Ok.ensures.answers;
      concludes = subst (λ none. EndsWell (c.args.telling.no_block && none) 0 c.end_well.result (g.E.Sink.shown c.hand_on.new.sink) (g.E.Sink.shown c.end_well.new.error)) c.in-Ok.ensures.none_is c.end_well.ensures;
    })

pub returns-in-Err : goal.returns-in-Err
returns-in-Err g c =
    let says : HandsOn (g.E.Sink.shown c.args.error.now) c.args.messages.now (g.E.Sink.shown c.hand_on.new.sink) = search rules in
    inr (record { after = g.E.Sink.shown c.hand_on.new.sink; says = says; end = Err c.in-Err.fault; answers = c.in-Err.ensures.answers; concludes = c.conclude.ensures })
