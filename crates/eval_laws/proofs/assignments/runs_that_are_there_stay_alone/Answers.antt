use Rattle.eval_laws.proofs.Runs.{run_there}
use Rattle.eval_laws.proofs.assignments.runs_that_are_there_stay_alone.Goals as goal

pub returns : goal.returns
returns c = run_there
