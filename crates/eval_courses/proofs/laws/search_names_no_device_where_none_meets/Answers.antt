use Rattle.eval_courses.proofs.Finding.{none_reported}
use Rattle.eval_courses.proofs.laws.search_names_no_device_where_none_meets.Goals as goal

pub returns : goal.returns
returns c = none_reported
