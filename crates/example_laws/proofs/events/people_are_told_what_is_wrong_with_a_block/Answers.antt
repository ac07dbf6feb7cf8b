use Rattle.std.proofs.Common.{refl}
use Rattle.example_laws.proofs.Computing.{computed}
use Rattle.example_laws.proofs.events.people_are_told_what_is_wrong_with_a_block.Goals as goal

pub returns : goal.returns
unfolding computed
returns c = record { none = refl; unasked = refl; some = refl; faulty = refl }
