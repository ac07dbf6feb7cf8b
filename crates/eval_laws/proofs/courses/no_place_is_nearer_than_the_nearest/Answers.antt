use Rattle.eval_laws.proofs.Nearest.{none_is_nearer}
use Rattle.eval_laws.proofs.courses.no_place_is_nearer_than_the_nearest.Goals as goal

pub returns : goal.returns
returns c = none_is_nearer
