use Rattle.std.proofs.Common.{refl}
use Rattle.engine_answers.specs.Members.{sourced}
use Rattle.engine_answers.proofs.laws.a_value_is_beside_its_rule.Goals as goal

pub returns : goal.returns
unfolding sourced
returns c = record { rule = λ rule value. refl; none = λ value. refl }
