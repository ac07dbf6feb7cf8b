use Rattle.eval_laws.proofs.Changing.{others_stay}
use Rattle.eval_laws.proofs.changes.only_the_given_texts_are_removed.Goals as goal

pub returns : goal.returns
returns c = others_stay
