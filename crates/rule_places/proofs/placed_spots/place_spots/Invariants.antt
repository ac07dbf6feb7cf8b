use Rattle.std.proofs.Common.{◌≡◌, ◌++◌, map}
use Rattle.rule_places.specs.Placed.{placed}
use Rattle.rule_places.proofs.placed_spots.place_spots.Given as goal

abbrev pub invariant-loop-spot : goal.invariant-loop-spot
invariant-loop-spot g l = l.found.items ≡ l.initial.found.items ++ map (placed l.kept l.number l.start) l.yielded
