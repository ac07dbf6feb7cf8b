use Rattle.std.proofs.Common.{refl}
use Rattle.example_laws.proofs.Computing.{computed}
use Rattle.example_laws.proofs.matches.a_search_that_finds_no_device_stops_its_rule.Goals as goal

pub returns : goal.returns
unfolding computed
returns c = refl
