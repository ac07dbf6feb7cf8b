use Rattle.eval_courses.proofs.Finding.{named_reported}
use Rattle.eval_courses.proofs.laws.search_names_the_first_to_meet.Goals as goal

pub returns : goal.returns
returns c = named_reported
