use Rattle.std.proofs.Common.{◌≡◌, ◌++◌, flat_map}
use Rattle.devdry_links.specs.Visits.{file_of_sight}
use Rattle.devdry_links.proofs.visits.push_files.Given as goal

abbrev pub invariant-loop-sight : goal.invariant-loop-sight
invariant-loop-sight l = l.files.items ≡ l.initial.files.items ++ flat_map (file_of_sight l.place) l.yielded
