use Rattle.std.proofs.Common.{take}
use Rattle.lsp_server.specs.AnyServer.{acting}
use Rattle.lsp_server.specs.Taking.{GoesBy, situation}
use Rattle.lsp_server.proofs.taking.take_piece.Given as goal

abbrev pub invariant-loop-byte : goal.invariant-loop-byte
invariant-loop-byte g l =
    GoesBy (situation l.initial.frames (acting g.S.Replying.replies g.S.Replying.after l.initial.server)) (take l.byte-index l.piece)
    (situation l.frames (acting g.S.Replying.replies g.S.Replying.after l.server)) (g.W.Sink.shown l.initial.output) (g.W.Sink.shown l.output)
