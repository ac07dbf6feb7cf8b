use Rattle.std.proofs.Common.{rules, refl}
use Rattle.engine_sessions.specs.Sinks.{BreaksOff, HandsOn}
use Rattle.lsp_server.specs.AnyServer.{acting}
use Rattle.lsp_server.proofs.Serving.{served, stopped_at_messages}
use Rattle.lsp_server.proofs.sessions.serve_editor.Goals as goal

pub returns-then-is_err : goal.returns-then-is_err
returns-then-is_err g c =
    let breaks : BreaksOff (g.E.Sink.shown c.args.error.now) c.args.messages.now (g.E.Sink.shown c.hand_on.new.sink) = search rules in
    stopped_at_messages c.args.messages.now (acting g.S.Replying.replies g.S.Replying.after c.args.server.now) 3 _ _ refl refl refl breaks

pub returns : goal.returns
returns g c =
    let says : HandsOn (g.E.Sink.shown c.args.error.now) c.args.messages.now (g.E.Sink.shown c.hand_on.new.sink) = search rules in
    served c.args.messages.now (acting g.S.Replying.replies g.S.Replying.after c.args.server.now) _ _ _ _ says c.serve_input-end.result c.serve_input-end.ensures c.conclude.ensures
