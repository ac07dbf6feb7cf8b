use Rattle.std.proofs.Common.{◌≡◌, take}
use Rattle.std.specs.List.{filter_map}
use Rattle.engine_courses.specs.Inner.{nearest_so_far}
use Rattle.engine_courses.specs.Nearest.{candidate_of}
use Rattle.engine_courses.proofs.nearest.nearest.Given as goal

abbrev pub invariant-loop-place : goal.invariant-loop-place
invariant-loop-place l = l.best ≡ nearest_so_far (filter_map (candidate_of l.text) (take l.place-index l.places))
