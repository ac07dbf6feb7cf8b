use Rattle.std.proofs.Common.{sym}
use Rattle.std.proofs.lemmas.Result.{err_from_is_err_and}
use Rattle.lsp_server.specs.AnyServer.{acting}
use Rattle.lsp_server.specs.Taking.{situation}
use Rattle.lsp_server.proofs.TakingLemmas.{goes-none, piece-ends, piece-goes, piece-stops}
use Rattle.lsp_server.proofs.taking.take_piece.Goals as goal

pub loop-byte-init : goal.loop-byte-init
loop-byte-init g c = goes-none _ _

pub loop-byte-preserved : goal.loop-byte-preserved
loop-byte-preserved g c =
    piece-goes c.in_ok-exit.exit (situation c.args.frames.now (acting g.S.Replying.replies g.S.Replying.after c.args.server.now)) (situation c.loop-byte.frames (acting g.S.Replying.replies g.S.Replying.after c.loop-byte.server))
    (situation c.take_byte.new.frames (acting g.S.Replying.replies g.S.Replying.after c.take_byte.new.server)) c.args.piece.now c.loop-byte.byte-index
    (g.W.Sink.shown c.args.output.now) (g.W.Sink.shown c.loop-byte.output) (g.W.Sink.shown c.take_byte.new.output) (sym c.if-is_some.ensures) c.loop-byte-test.true
    c.loop-byte.invariant c.in_ok-exit.ensures.ok

pub returns-in_err-exit-clause-err : goal.returns-in_err-exit-clause-err
returns-in_err-exit-clause-err g c =
    let p = err_from_is_err_and c.from_residual.result c.from_residual.ensures.1 in
    rw (p.1, p.2) (piece-stops c.in_err-exit.field-0.0 (situation c.args.frames.now (acting g.S.Replying.replies g.S.Replying.after c.args.server.now)) (situation c.loop-byte.frames (acting g.S.Replying.replies g.S.Replying.after c.loop-byte.server))
    c.args.piece.now c.loop-byte.byte-index (g.W.Sink.shown c.args.output.now) (g.W.Sink.shown c.loop-byte.output) (g.W.Sink.shown c.take_byte.new.output) c.loop-byte-test.true
    c.loop-byte.invariant c.in_err-exit.ensures.err)

pub returns-then-is_some-clause-ok : goal.returns-then-is_some-clause-ok
returns-then-is_some-clause-ok g c =
    piece-ends c.in_ok-exit.exit (situation c.args.frames.now (acting g.S.Replying.replies g.S.Replying.after c.args.server.now)) (situation c.loop-byte.frames (acting g.S.Replying.replies g.S.Replying.after c.loop-byte.server))
    (situation c.take_byte.new.frames (acting g.S.Replying.replies g.S.Replying.after c.take_byte.new.server)) (situation c.take_byte.new.frames (acting g.S.Replying.replies g.S.Replying.after c.take_byte.new.server))
    c.args.piece.now c.loop-byte.byte-index (g.W.Sink.shown c.args.output.now) (g.W.Sink.shown c.loop-byte.output) (g.W.Sink.shown c.take_byte.new.output)
    (sym c.if-is_some.ensures) c.loop-byte-test.true c.loop-byte.invariant c.in_ok-exit.ensures.ok
