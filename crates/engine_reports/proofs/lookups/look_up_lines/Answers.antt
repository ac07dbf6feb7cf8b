use Rattle.std.proofs.Common.{rules, refl}
use Rattle.engine_sessions.specs.Sinks.{BreaksOff, HandsOn}
use Rattle.engine_reports.specs.LookupOutcomes.{answer_to}
use Rattle.engine_reports.proofs.Serving.{looked_at_messages, looked_up}
use Rattle.engine_reports.proofs.lookups.look_up_lines.Goals as goal

pub returns-then-is_err : goal.returns-then-is_err
returns-then-is_err g c =
    let breaks : BreaksOff (g.E.Sink.shown c.args.error.now) c.args.messages.now (g.E.Sink.shown c.hand_on.new.sink) = search rules in
    looked_at_messages c.args.messages.now (answer_to c.args.sources (g.L.Lookup.entries c.args.database.now)) 3 _ _ refl refl refl breaks

pub returns : goal.returns
returns g c =
    let says : HandsOn (g.E.Sink.shown c.args.error.now) c.args.messages.now (g.E.Sink.shown c.hand_on.new.sink) = search rules in
    looked_up c.args.messages.now (answer_to c.args.sources (g.L.Lookup.entries c.args.database.now)) _ _ _ _ says c.answer_input-end.result c.answer_input-end.ensures c.conclude.ensures
