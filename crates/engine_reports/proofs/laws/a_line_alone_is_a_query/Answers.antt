use Rattle.engine_reports.specs.Messages.{message_lines}
use Rattle.engine_reports.specs.LookupOutcomes.{answer_to}
use Rattle.engine_reports.proofs.LawLemmas.{alone}
use Rattle.engine_reports.proofs.laws.a_line_alone_is_a_query.Goals as goal

pub returns : goal.returns
returns c line entries messages h e = alone (message_lines messages) (answer_to line.sources entries) line.modalias.now h e
