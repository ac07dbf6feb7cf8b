use Rattle.std.proofs.Common.{refl}
use Rattle.example_laws.proofs.Computing.{computed}
use Rattle.example_laws.proofs.reports.each_rule_says_what_its_keys_met_and_how_it_ended.Goals as goal

pub returns : goal.returns
unfolding computed
returns c = record { ends = refl; chain = refl; acts = refl }
