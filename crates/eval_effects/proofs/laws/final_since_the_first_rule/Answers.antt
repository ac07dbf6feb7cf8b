use Rattle.eval_effects.proofs.Firsts.{first_after}
use Rattle.eval_effects.proofs.laws.final_since_the_first_rule.Goals as goal

pub returns : goal.returns
returns c = first_after
