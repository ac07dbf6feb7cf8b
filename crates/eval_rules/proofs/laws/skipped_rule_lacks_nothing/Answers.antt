use Rattle.eval_rules.proofs.AsEvaluated.{passed_as}
use Rattle.eval_rules.proofs.laws.skipped_rule_lacks_nothing.Goals as goal

pub returns : goal.returns
returns c = λ known r s idle g. passed_as known r s idle g
