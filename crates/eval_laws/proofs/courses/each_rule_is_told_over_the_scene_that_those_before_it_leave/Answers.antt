use Rattle.eval_laws.proofs.Told.{last_of_rules, none_told}
use Rattle.eval_laws.proofs.courses.each_rule_is_told_over_the_scene_that_those_before_it_leave.Goals as goal

pub returns : goal.returns
returns c = record { tried = last_of_rules; none = none_told }
