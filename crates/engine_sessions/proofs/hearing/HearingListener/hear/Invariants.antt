use Rattle.std.proofs.Common.{length, ◌-◌, ◌≤◌, ◌++◌, take}
use Rattle.engine_sessions.specs.Tallies.{IsTold, events_of}
use Rattle.engine_sessions.proofs.hearing.HearingListener.hear.Given as goal

abbrev pub invariant-loop-used : goal.invariant-loop-used
invariant-loop-used g l = record {
  within : l.used ≤ length l.piece;
  told : IsTold (λ rest. g.T.Tally.says l.initial.self.tally (events_of l.initial.self.profile (l.initial.self.splitter.pending ++ rest)))
      (λ rest. g.T.Tally.says l.self.tally (events_of l.self.profile (l.self.splitter.pending ++ rest))) (take l.used l.piece);
}

abbrev pub decreases-loop-used : goal.decreases-loop-used
decreases-loop-used g l = length l.piece - l.used
