use Rattle.std.proofs.Common.{refl}
use Rattle.example_laws.proofs.Computing.{computed}
use Rattle.example_laws.proofs.events.the_first_fault_of_a_block_is_told.Goals as goal

pub returns : goal.returns
unfolding computed
returns c = record { action = refl; device = refl; letter = refl; twice = refl; path = refl; number = refl; pair = refl; answer = refl }
