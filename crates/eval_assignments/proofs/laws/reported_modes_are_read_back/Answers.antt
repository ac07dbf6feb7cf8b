use Rattle.eval_assignments.proofs.Digits.{read_back}
use Rattle.eval_assignments.proofs.laws.reported_modes_are_read_back.Goals as goal

pub returns : goal.returns
returns c = read_back
