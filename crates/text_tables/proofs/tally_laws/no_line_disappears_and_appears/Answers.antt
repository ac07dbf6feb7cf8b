use Rattle.text_tables.proofs.Counting.{never_both}
use Rattle.text_tables.proofs.tally_laws.no_line_disappears_and_appears.Goals as goal

pub returns : goal.returns
returns c = never_both
