use Rattle.std.proofs.Common.{◌≡◌, ◌++◌, flat_map, take}
use Rattle.devdry_folders.specs.Nothing.{line_elsewhere}
use Rattle.devdry_folders.proofs.nothing.nothing_lines.Given as goal

abbrev pub invariant-loop-other : goal.invariant-loop-other
invariant-loop-other l = l.lines.items ≡ l.initial.lines.items ++ flat_map line_elsewhere (take l.other-index l.others)
