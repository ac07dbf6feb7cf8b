use Rattle.eval_assignments.proofs.PlainLinks.{free_of_link, steps_of_link}
use Rattle.eval_assignments.proofs.laws.kept_links_are_plain.Goals as goal

pub returns : goal.returns
returns c = record { steps = steps_of_link; free = free_of_link }
