use Rattle.std.proofs.Common.{◌≡◌, flat_map}
use Rattle.devdry_links.specs.Visits.{files_of_visit}
use Rattle.devdry_links.proofs.visits.files_of.Given as goal

abbrev pub invariant-loop-visit : goal.invariant-loop-visit
invariant-loop-visit l = l.files.items ≡ flat_map files_of_visit l.yielded
