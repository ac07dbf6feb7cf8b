use Rattle.eval_laws.proofs.Scopes.{rest_stays}
use Rattle.eval_laws.proofs.changes.an_assignment_changes_nothing_else.Goals as goal

pub returns : goal.returns
returns c = rest_stays
