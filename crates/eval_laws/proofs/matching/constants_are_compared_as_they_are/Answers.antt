use Rattle.std.proofs.Common.{cond, ap, ◌∙◌}
use Rattle.text_tables.specs.Pairs.{value_of}
use Rattle.eval_rendering.specs.Holding.{constant, holds, never}
use Rattle.eval_laws.proofs.matching.constants_are_compared_as_they_are.Goals as goal

pub returns : goal.returns
unfolding holds
returns c = record {
  given = (λ name text state wanted known value. ap (λ b. holds (cond b (constant (value_of state.event.constants name)) never) wanted) known ∙ ap (λ v. holds (constant v) wanted) value);
  absent = (λ name state wanted known value. ap (λ b. holds (cond b (constant (value_of state.event.constants name)) never) wanted) known ∙ ap (λ v. holds (constant v) wanted) value);
}
