use Rattle.eval_courses.proofs.First.{reached_first}
use Rattle.eval_courses.proofs.laws.keys_reached_are_the_first_of_a_rule.Goals as goal

pub returns : goal.returns
returns c = reached_first
