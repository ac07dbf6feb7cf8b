use Rattle.rule_file_lints.proofs.FileLemmas.{further_down}
use Rattle.rule_file_lints.proofs.file_laws.imports_are_further_down.Goals as goal

pub returns : goal.returns
returns c = further_down
