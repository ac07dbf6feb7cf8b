use Rattle.engine_answers.proofs.Reporting.{nothing_in_json}
use Rattle.engine_answers.proofs.compare_laws.no_object_is_reported_where_lines_are_the_same.Goals as goal

pub returns : goal.returns
returns c = nothing_in_json
