use Rattle.file_catalogue.proofs.Telling.{advice_told, heading_told, in_order}
use Rattle.file_catalogue.proofs.laws.each_section_is_on_its_code.Goals as goal

pub returns-clause-order : goal.returns-clause-order
returns-clause-order c = in_order

pub returns-clause-heading : goal.returns-clause-heading
returns-clause-heading c = heading_told

pub returns-clause-advice : goal.returns-clause-advice
returns-clause-advice c = advice_told
