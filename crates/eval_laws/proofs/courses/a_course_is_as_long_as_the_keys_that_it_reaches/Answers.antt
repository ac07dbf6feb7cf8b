use Rattle.eval_laws.proofs.Told.{course_length}
use Rattle.eval_laws.proofs.courses.a_course_is_as_long_as_the_keys_that_it_reaches.Goals as goal

pub returns : goal.returns
returns c = course_length
