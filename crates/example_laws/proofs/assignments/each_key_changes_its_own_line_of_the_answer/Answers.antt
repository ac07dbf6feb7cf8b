use Rattle.std.proofs.Common.{refl}
use Rattle.example_laws.proofs.Computing.{computed}
use Rattle.example_laws.proofs.assignments.each_key_changes_its_own_line_of_the_answer.Goals as goal

pub returns : goal.returns
unfolding computed
returns c = record { device = refl; lists = refl }
