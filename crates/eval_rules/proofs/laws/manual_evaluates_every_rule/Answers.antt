use Rattle.eval_rules.proofs.AsEvaluated.{manual_evaluates}
use Rattle.eval_rules.proofs.laws.manual_evaluates_every_rule.Goals as goal

pub returns : goal.returns
returns c = manual_evaluates
