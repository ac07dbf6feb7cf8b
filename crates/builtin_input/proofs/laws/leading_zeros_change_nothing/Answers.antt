use Rattle.builtin_input.proofs.WordLaws.{zeros}
use Rattle.builtin_input.proofs.laws.leading_zeros_change_nothing.Goals as goal

pub returns : goal.returns
returns c = zeros
