use Rattle.text_tables.proofs.Counting.{nothing_differs}
use Rattle.text_tables.proofs.tally_laws.nothing_differs_where_lines_are_the_same.Goals as goal

pub returns : goal.returns
returns c = nothing_differs
