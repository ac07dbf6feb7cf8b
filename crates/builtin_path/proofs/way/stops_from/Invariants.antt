use Rattle.std.proofs.Common.{◌≡◌, ◌++◌, false, length}
use Rattle.builtin_path.specs.Way.{stops_from}
use Rattle.builtin_path.proofs.way.stops_from.Given as goal

abbrev pub invariant-loop-member : goal.invariant-loop-member
invariant-loop-member l = l.stops.items ++ stops_from l.devices l.is_begun 0 l.left ≡ stops_from l.fn.devices false 0 l.fn.members

abbrev pub decreases-loop-member : goal.decreases-loop-member
decreases-loop-member l = length l.left
