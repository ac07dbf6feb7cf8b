use Rattle.std.proofs.Common.{[]}
use Rattle.text_tables.proofs.Counting.{following-push}
use Rattle.text_tables.proofs.tally_laws.the_last_of_equal_lines_are_reported.Goals as goal

pub returns : goal.returns
returns c = λ texts others text. following-push [] texts others text
