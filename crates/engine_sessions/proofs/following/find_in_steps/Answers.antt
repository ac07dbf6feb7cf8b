use Rattle.std.proofs.Common.{rules, ◌&&◌, cond, Err, inr, subst, sym}
use Rattle.engine_sessions.specs.Sinks.{HandsOn}
use Rattle.engine_sessions.specs.Serves.{EndsWell}
use Rattle.engine_sessions.specs.Sessions.{answer_of, asked_by}
use Rattle.engine_sessions.proofs.FindingLemmas.{found_after}
use Rattle.engine_sessions.proofs.following.find_in_steps.Goals as goal

pub returns-then-found : goal.returns-then-found
returns-then-found g c =
    let says : HandsOn (g.E.Sink.shown c.args.error.now) c.args.messages.now (g.E.Sink.shown c.hand_on.new.sink) = search rules in
    found_after c.args.telling c.args.messages.now (answer_of g.A.Answering.answers (asked_by c.args.profile c.args.answering.now)) c.in-Ok.found _ _ _ _ says c.in-Ok.ensures
    (subst (λ finds. EndsWell (c.args.telling.no_block && c.in-Ok.found.no_block) (cond finds 1 0) c.end_well.result (g.E.Sink.shown c.hand_on.new.sink) (g.E.Sink.shown c.end_well.new.error)) (sym c.if-found.true) c.end_well.ensures)

pub returns-else-found : goal.returns-else-found
returns-else-found g c =
    let says : HandsOn (g.E.Sink.shown c.args.error.now) c.args.messages.now (g.E.Sink.shown c.hand_on.new.sink) = search rules in
    found_after c.args.telling c.args.messages.now (answer_of g.A.Answering.answers (asked_by c.args.profile c.args.answering.now)) c.in-Ok.found _ _ _ _ says c.in-Ok.ensures
    (subst (λ finds. EndsWell (c.args.telling.no_block && c.in-Ok.found.no_block) (cond finds 1 0) c.end_well-else-found.result (g.E.Sink.shown c.hand_on.new.sink) (g.E.Sink.shown c.end_well-else-found.new.error)) (sym c.if-found.false) c.end_well-else-found.ensures)

pub returns-in-Err : goal.returns-in-Err
returns-in-Err g c =
    let says : HandsOn (g.E.Sink.shown c.args.error.now) c.args.messages.now (g.E.Sink.shown c.hand_on.new.sink) = search rules in
    inr (record { after = g.E.Sink.shown c.hand_on.new.sink; says = says; end = Err c.in-Err.fault; answers = c.in-Err.ensures.answers; concludes = c.conclude.ensures })
