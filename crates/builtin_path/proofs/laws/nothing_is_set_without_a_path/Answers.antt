use Rattle.builtin_path.proofs.PathLaws.{nothing_set}
use Rattle.builtin_path.proofs.laws.nothing_is_set_without_a_path.Goals as goal

pub returns : goal.returns
returns c = nothing_set
