use Rattle.engine_courses.proofs.Counting.{ends_are, reached_is}
use Rattle.engine_courses.proofs.unused.laws.each_event_is_counted_where_it_ended.Goals as goal

pub returns : goal.returns
returns c = record { reached = reached_is; ends = ends_are }
