use Rattle.std.proofs.Common.{◌≡◌, ◌++◌, flat_map, take}
use Rattle.devdry_folders.specs.Nothing.{line_on_place}
use Rattle.devdry_folders.proofs.nothing.push_places.Given as goal

abbrev pub invariant-loop-visit : goal.invariant-loop-visit
invariant-loop-visit l = l.lines.items ≡ l.initial.lines.items ++ flat_map (line_on_place l.kinds) (take l.visit-index l.visits)
