use Rattle.eval_courses.proofs.Ending.{course_ends_so}
use Rattle.eval_courses.proofs.laws.course_ends_as_its_rule.Goals as goal

pub returns : goal.returns
returns c = course_ends_so
