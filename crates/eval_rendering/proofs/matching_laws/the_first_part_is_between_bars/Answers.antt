use Rattle.eval_rendering.proofs.Parts.{first_alone, first_of_several}
use Rattle.eval_rendering.proofs.matching_laws.the_first_part_is_between_bars.Goals as goal

pub returns : goal.returns
returns c = record { last = first_alone; others = first_of_several }
