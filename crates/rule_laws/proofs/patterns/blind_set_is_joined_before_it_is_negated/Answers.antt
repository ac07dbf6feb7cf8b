use Rattle.rule_laws.proofs.Cases.{joined_set, negated_set}
use Rattle.rule_laws.proofs.patterns.blind_set_is_joined_before_it_is_negated.Goals as goal

pub returns-clause-joined : goal.returns-clause-joined
returns-clause-joined c = joined_set

pub returns-clause-negated : goal.returns-clause-negated
returns-clause-negated c = negated_set
