use Rattle.std.proofs.Common.{refl}
use Rattle.example_laws.proofs.Computing.{computed}
use Rattle.example_laws.proofs.matches.a_search_selects_the_nearest_device_that_meets_all_matches.Goals as goal

pub returns : goal.returns
unfolding computed
returns c = record { all = refl; nearest = refl; later = refl }
