use Rattle.rule_laws.proofs.First.{no_file, no_line}
use Rattle.rule_laws.proofs.reading.values_of_version_1_have_no_file.Goals as goal

pub returns : goal.returns
returns c = record { file = no_file; line = no_line }
