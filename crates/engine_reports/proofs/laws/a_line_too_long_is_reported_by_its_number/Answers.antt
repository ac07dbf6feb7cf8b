use Rattle.engine_reports.proofs.LongLines.{reported_by_number}
use Rattle.engine_reports.proofs.laws.a_line_too_long_is_reported_by_its_number.Goals as goal

pub returns : goal.returns
returns c = reported_by_number
