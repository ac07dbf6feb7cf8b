use Rattle.rule_laws.proofs.Operators.{operator_is}
use Rattle.rule_laws.proofs.parts.a_part_has_the_operator_of_its_token.Goals as goal

pub returns : goal.returns
returns c = operator_is
