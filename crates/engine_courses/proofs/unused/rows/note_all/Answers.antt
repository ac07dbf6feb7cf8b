use Rattle.std.proofs.Common.{sym}
use Rattle.engine_courses.proofs.Noting.{no_fates, noted_more}
use Rattle.engine_courses.proofs.unused.rows.note_all.Goals as goal

pub loop-place-init : goal.loop-place-init
loop-place-init c = sym (no_fates c.args.rows.now.items)

pub loop-place-preserved : goal.loop-place-preserved
loop-place-preserved c = noted_more c.args.rows.now.items c.args.fates.now c.loop-place.place _ _ _ c.loop-place-test.true c.loop-place.invariant c.in_ok-note_at.ensures
