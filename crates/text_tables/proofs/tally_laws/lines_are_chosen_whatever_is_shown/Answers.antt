use Rattle.std.proofs.Common.{[]}
use Rattle.text_tables.specs.Surplus.{line_of}
use Rattle.text_tables.proofs.Counting.{chosen}
use Rattle.text_tables.proofs.tally_laws.lines_are_chosen_whatever_is_shown.Goals as goal

pub returns : goal.returns
returns c = λ lines others. chosen line_of [] lines others
