use Rattle.eval_courses.proofs.Ending.{skipped_ends}
use Rattle.eval_courses.proofs.laws.course_says_what_is_skipped.Goals as goal

pub returns : goal.returns
returns c = skipped_ends
