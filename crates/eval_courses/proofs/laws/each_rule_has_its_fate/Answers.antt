use Rattle.eval_courses.proofs.First.{fates_each}
use Rattle.eval_courses.proofs.laws.each_rule_has_its_fate.Goals as goal

pub returns : goal.returns
returns c = fates_each
