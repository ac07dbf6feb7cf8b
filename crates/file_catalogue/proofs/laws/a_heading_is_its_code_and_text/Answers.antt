use Rattle.file_catalogue.proofs.Telling.{code_has_no_space}
use Rattle.file_catalogue.proofs.laws.a_heading_is_its_code_and_text.Goals as goal

pub returns-clause-code : goal.returns-clause-code
returns-clause-code c = code_has_no_space
