use Rattle.std.proofs.Common.{refl}
use Rattle.example_laws.proofs.Computing.{computed}
use Rattle.example_laws.proofs.reports.what_goes_is_told_first_and_the_ends_of_texts_are_seen.Goals as goal

pub returns : goal.returns
unfolding computed
returns c = record { replaced = refl; blanks = refl }
