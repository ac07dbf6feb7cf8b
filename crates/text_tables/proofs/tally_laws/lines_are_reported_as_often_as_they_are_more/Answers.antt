use Rattle.text_tables.proofs.Counting.{counted}
use Rattle.text_tables.proofs.tally_laws.lines_are_reported_as_often_as_they_are_more.Goals as goal

pub returns : goal.returns
returns c = counted
