use Rattle.engine_courses.proofs.Greatest.{first_is, most_is, named_is}
use Rattle.engine_courses.proofs.unused.laws.no_key_stopped_more_events_than_the_one_named.Goals as goal

pub returns : goal.returns
returns c = record { most = most_is; named = named_is; first = first_is }
