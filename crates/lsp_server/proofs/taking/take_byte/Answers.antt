use Rattle.std.proofs.Common.{Some, None}
use Rattle.lsp_server.specs.Items.{taken}
use Rattle.lsp_server.specs.AnyServer.{acting}
use Rattle.lsp_server.proofs.TakingLemmas.{at_field, goes-byte, reply_err, reply_ok, stops-byte}
use Rattle.lsp_server.proofs.taking.take_byte.Goals as goal

pub returns-in-Ok-Some-clause-ok : goal.returns-in-Ok-Some-clause-ok
returns-in-Ok-Some-clause-ok g c =
    let e = at_field c.take.new.self c.in-Ok-Some.field-0 (Some c.in-Ok-Some.item) (taken c.args.frames.now c.args.byte) c.in-Ok-Some.field-0-is c.in-Ok-Some.ensures.ok in
    reply_ok c.send_reply.result c.args.frames.now (acting g.S.Replying.replies g.S.Replying.after c.args.server.now) c.args.byte c.take.new.self c.in-Ok-Some.item c.send_reply.new.server
    (g.W.Sink.shown c.args.output.now) (g.W.Sink.shown c.send_reply.new.output) e c.send_reply.ensures.exit c.send_reply.ensures.ok c.send_reply.ensures.after

pub returns-in-Ok-Some-clause-err : goal.returns-in-Ok-Some-clause-err
returns-in-Ok-Some-clause-err g c =
    let e = at_field c.take.new.self c.in-Ok-Some.field-0 (Some c.in-Ok-Some.item) (taken c.args.frames.now c.args.byte) c.in-Ok-Some.field-0-is c.in-Ok-Some.ensures.ok in
    reply_err c.send_reply.result c.args.frames.now (acting g.S.Replying.replies g.S.Replying.after c.args.server.now) c.args.byte c.take.new.self c.in-Ok-Some.item
    (g.W.Sink.shown c.args.output.now) (g.W.Sink.shown c.send_reply.new.output) e c.send_reply.ensures.err

pub returns-in-Ok-None-clause-ok : goal.returns-in-Ok-None-clause-ok
returns-in-Ok-None-clause-ok g c =
    let e = at_field c.take.new.self c.in-Ok-None.field-0 None (taken c.args.frames.now c.args.byte) c.in-Ok-None.field-0-is c.in-Ok-None.ensures.ok in
    goes-byte c.args.frames.now (acting g.S.Replying.replies g.S.Replying.after c.args.server.now) c.args.byte c.take.new.self (g.W.Sink.shown c.args.output.now) e

pub returns-in-Err-clause-err : goal.returns-in-Err-clause-err
returns-in-Err-clause-err g c = stops-byte c.args.frames.now (acting g.S.Replying.replies g.S.Replying.after c.args.server.now) c.args.byte (g.W.Sink.shown c.args.output.now)
