use Rattle.eval_courses.proofs.First.{met_so}
use Rattle.eval_courses.proofs.laws.rule_is_met_where_all_its_keys_let_it_go_on.Goals as goal

pub returns : goal.returns
returns c = met_so
