use Rattle.engine_answers.proofs.Reporting.{nothing_reported}
use Rattle.engine_answers.proofs.compare_laws.nothing_is_reported_where_lines_are_the_same.Goals as goal

pub returns : goal.returns
returns c = nothing_reported
