use Rattle.eval_laws.proofs.LineLemmas.{line_of_excess-lines}
use Rattle.eval_laws.proofs.blocks.excess_is_in_the_last_line.Goals as goal

pub returns : goal.returns
returns c = line_of_excess-lines
