use Rattle.std.proofs.Common.{take}
use Rattle.engine_reports.specs.LookupOutcomes.{answer_to}
use Rattle.engine_reports.specs.Taking.{Answers}
use Rattle.engine_reports.proofs.turning.answer_piece.Given as goal

abbrev pub invariant-loop-byte : goal.invariant-loop-byte
invariant-loop-byte g l = Answers (answer_to l.sources (g.L.Lookup.entries l.database)) l.initial.held (take l.byte-index l.piece) l.held (g.W.Sink.shown l.initial.output) (g.W.Sink.shown l.output)
