use Rattle.eval_laws.proofs.Unmatched.{unmatched}
use Rattle.eval_laws.proofs.events.unmatched_rules_change_nothing.Goals as goal

pub returns : goal.returns
returns c = unmatched
