use Rattle.std.proofs.Common.{refl}
use Rattle.example_laws.proofs.Computing.{computed}
use Rattle.example_laws.proofs.acts.what_a_dry_run_does_not_do_is_noted.Goals as goal

pub returns : goal.returns
unfolding computed
returns c = refl
