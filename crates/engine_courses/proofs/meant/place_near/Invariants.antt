use Rattle.std.proofs.Common.{◌≡◌, ◌++◌, drop, map}
use Rattle.engine_courses.specs.Meant.{file_name}
use Rattle.engine_courses.proofs.meant.place_near.Given as goal

abbrev pub invariant-loop-place : goal.invariant-loop-place
invariant-loop-place l =
    map (λ name. name.now) l.names.items ++ map file_name (drop l.place-index l.places) ≡ map file_name l.places
