use Rattle.std.proofs.Common.{◌≡◌, take}
use Rattle.devdry_links.specs.Naming.{paths_named}
use Rattle.devdry_links.proofs.naming.paths_named.Given as goal

abbrev pub invariant-loop-file : goal.invariant-loop-file
invariant-loop-file l = l.paths.items ≡ paths_named (take l.file-index l.files)
