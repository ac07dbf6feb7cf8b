use Rattle.engine_reports.proofs.LawLemmas.{both_outputs, last_status}
use Rattle.engine_reports.proofs.laws.answers_to_lines_follow_one_another.Goals as goal

pub returns : goal.returns
returns c = record { output = both_outputs; status = last_status }
