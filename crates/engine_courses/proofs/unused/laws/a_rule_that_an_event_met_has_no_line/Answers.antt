use Rattle.engine_courses.proofs.Counting.{met_none}
use Rattle.engine_courses.proofs.unused.laws.a_rule_that_an_event_met_has_no_line.Goals as goal

pub returns : goal.returns
returns c = met_none
