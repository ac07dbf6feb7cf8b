use Rattle.std.proofs.Common.{◌≡◌, take}
use Rattle.devdry_folders.specs.Lying.{paths_of}
use Rattle.devdry_folders.proofs.lying.paths_of.Given as goal

abbrev pub invariant-loop-entry : goal.invariant-loop-entry
invariant-loop-entry l = l.paths.items ≡ paths_of l.folder (take l.entry-index l.entries)
