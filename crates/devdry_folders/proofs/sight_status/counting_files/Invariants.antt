use Rattle.std.proofs.Common.{map, reverse}
use Rattle.devdry_folders.proofs.Counting.{AreCounting}
use Rattle.devdry_folders.proofs.sight_status.counting_files.Given as goal

abbrev pub invariant-loop-sight : goal.invariant-loop-sight
invariant-loop-sight l = AreCounting l.files (reverse (map (λ r. r.now) l.yielded))
