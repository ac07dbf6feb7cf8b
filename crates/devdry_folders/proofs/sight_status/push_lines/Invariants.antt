use Rattle.std.proofs.Common.{◌≡◌, ◌++◌, flat_map, take}
use Rattle.devdry_folders.specs.SightStatus.{status_line}
use Rattle.devdry_folders.proofs.sight_status.push_lines.Given as goal

abbrev pub invariant-loop-sight : goal.invariant-loop-sight
invariant-loop-sight l = l.lines.items ≡ l.initial.lines.items ++ flat_map (status_line l.kind l.sights) (take l.sight-index l.sights)
