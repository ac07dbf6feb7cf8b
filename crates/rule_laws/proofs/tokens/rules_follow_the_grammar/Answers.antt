use Rattle.rule_laws.proofs.Placement.{values_are_meant}
use Rattle.rule_laws.proofs.tokens.rules_follow_the_grammar.Goals as goal

pub returns-clause-values : goal.returns-clause-values
returns-clause-values c = values_are_meant
