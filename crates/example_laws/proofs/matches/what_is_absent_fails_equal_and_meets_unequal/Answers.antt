use Rattle.std.proofs.Common.{refl}
use Rattle.example_laws.proofs.Computing.{computed}
use Rattle.example_laws.proofs.matches.what_is_absent_fails_equal_and_meets_unequal.Goals as goal

pub returns : goal.returns
unfolding computed
returns c = record { attribute = refl; constant = refl; parameter = refl; empty = refl }
