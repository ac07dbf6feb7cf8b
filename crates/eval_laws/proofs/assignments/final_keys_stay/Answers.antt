use Rattle.eval_laws.proofs.Finality.{fold_keeps}
use Rattle.eval_laws.proofs.assignments.final_keys_stay.Goals as goal

pub returns : goal.returns
returns c = λ r k sets s lasts h. fold_keeps k r sets s lasts h
