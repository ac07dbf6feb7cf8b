use Rattle.std.proofs.Common.{arith, ◌∙◌}
use Rattle.engine_sessions.proofs.Reported.{followed_by-part}
use Rattle.engine_sessions.proofs.writing.write_all.Goals as goal

pub loop-done-preserved : goal.loop-done-preserved
loop-done-preserved g c =
    let more = c.in_ok-n.ensures.takes (omega arith) in
    let so_far = c.loop-done.invariant.so_far in
    record {
      within = omega (arith, c.in_ok-n.ensures.within, c.loop-done.invariant.within);
      so_far = record {
        taken = followed_by-part _ _ _ _ _ _ so_far.taken more.taken;
        flushed = more.flushed ∙ so_far.flushed;
        well = more.well ∙ so_far.well;
      };
    }
