use Rattle.std.proofs.Common.{length, ◌-◌, ◌≤◌, take}
use Rattle.engine_sessions.specs.Sessions.{answer_of}
use Rattle.engine_sessions.proofs.FindingLemmas.{SentFinding}
use Rattle.engine_sessions.proofs.turning.answer_piece.Given as goal

abbrev pub invariant-loop-used : goal.invariant-loop-used
invariant-loop-used g l = record {
  within : l.used ≤ length l.piece;
  sending : SentFinding (answer_of g.A.Answering.answers l.initial.session.answering) l.initial.session (take l.used l.piece) l.session (g.W.Sink.shown l.initial.output) (g.W.Sink.shown l.output) l.finds;
}

abbrev pub decreases-loop-used : goal.decreases-loop-used
decreases-loop-used g l = length l.piece - l.used
