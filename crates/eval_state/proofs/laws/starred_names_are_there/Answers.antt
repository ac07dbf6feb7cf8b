use Rattle.eval_state.proofs.Starring.{starred_is_there}
use Rattle.eval_state.proofs.laws.starred_names_are_there.Goals as goal

pub returns : goal.returns
returns c = starred_is_there
