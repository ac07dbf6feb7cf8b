use Rattle.std.proofs.Common.{refl}
use Rattle.example_laws.proofs.Computing.{computed}
use Rattle.example_laws.proofs.matches.one_link_or_tag_that_fits_is_enough.Goals as goal

pub returns : goal.returns
unfolding computed
returns c = refl
