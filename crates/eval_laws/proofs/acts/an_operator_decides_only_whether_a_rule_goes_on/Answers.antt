use Rattle.eval_laws.proofs.Operators.{at_most_one, operator_turns, same_changes}
use Rattle.eval_laws.proofs.acts.an_operator_decides_only_whether_a_rule_goes_on.Goals as goal

pub returns-clause-changes : goal.returns-clause-changes
returns-clause-changes c = same_changes

pub returns-clause-proceeds : goal.returns-clause-proceeds
returns-clause-proceeds c = operator_turns

pub returns-clause-one : goal.returns-clause-one
returns-clause-one c = at_most_one
