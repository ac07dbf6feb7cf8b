use Rattle.std.proofs.Common.{◌≡◌, drop}
use Rattle.engine_courses.specs.Meant.{place_called}
use Rattle.engine_courses.proofs.meant.place_called.Given as goal

abbrev pub invariant-loop-place : goal.invariant-loop-place
invariant-loop-place l = place_called (drop l.place-index l.places) l.name ≡ place_called l.places l.name
