use Rattle.std.proofs.Common.{arith, refl, ◌++◌}
use Rattle.std.proofs.lemmas.Grind.{common_steps}
use Rattle.engine_sessions.specs.Tallies.{events_of}
use Rattle.engine_sessions.proofs.TurnLemmas.{rest_of_slice}
use Rattle.engine_sessions.proofs.ToldText.{told_on}
use Rattle.engine_sessions.proofs.hearing.HearingListener.hear.Goals as goal

pub loop-used-init : goal.loop-used-init
loop-used-init g c = record { within = omega arith; told = λ rest. refl }

pub loop-used-preserved : goal.loop-used-preserved
loop-used-preserved g c =
    record {
      within = grind (arith, common_steps);
      told = told_on
          (λ rest. g.T.Tally.says c.args.self.now.tally (events_of c.args.self.now.profile (c.args.self.now.splitter.pending ++ rest)))
          (λ rest. g.T.Tally.says c.loop-used.self.tally (events_of c.loop-used.self.profile (c.loop-used.self.splitter.pending ++ rest)))
          (λ rest. g.T.Tally.says c.hear_some.new.self.tally (events_of c.hear_some.new.self.profile (c.hear_some.new.self.splitter.pending ++ rest)))
          c.args.piece.now c.loop-used.used c.in_ok-used.field-0 c.loop-used.invariant.told (rw rest_of_slice at c.in_ok-used.ensures.told);
    }
