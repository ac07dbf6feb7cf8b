use Rattle.engine_courses.proofs.Counting.{unreached_said}
use Rattle.engine_courses.proofs.unused.laws.a_rule_that_no_event_reached_is_not_reached.Goals as goal

pub returns : goal.returns
returns c = unreached_said
