use Rattle.std.proofs.Common.{◌≡◌, take}
use Rattle.engine_courses.specs.Rows.{with_fates}
use Rattle.engine_courses.proofs.unused.rows.note_all.Given as goal

abbrev pub invariant-loop-place : goal.invariant-loop-place
invariant-loop-place l = l.rows.items ≡ with_fates l.initial.rows.items (take l.place l.fates)
