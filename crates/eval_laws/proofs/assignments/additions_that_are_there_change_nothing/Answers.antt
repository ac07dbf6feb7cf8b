use Rattle.eval_laws.proofs.Gone.{all_there}
use Rattle.eval_laws.proofs.assignments.additions_that_are_there_change_nothing.Goals as goal

pub returns : goal.returns
returns c = all_there
