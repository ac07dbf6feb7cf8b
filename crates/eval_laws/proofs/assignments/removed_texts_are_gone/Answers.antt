use Rattle.eval_laws.proofs.Gone.{all_gone}
use Rattle.eval_laws.proofs.assignments.removed_texts_are_gone.Goals as goal

pub returns : goal.returns
returns c = all_gone
