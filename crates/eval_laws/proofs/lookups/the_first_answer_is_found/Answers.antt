use Rattle.eval_laws.proofs.FirstFound.{first_is_found, none_is_found}
use Rattle.eval_laws.proofs.lookups.the_first_answer_is_found.Goals as goal

pub returns-clause-some : goal.returns-clause-some
returns-clause-some c = first_is_found

pub returns-clause-none : goal.returns-clause-none
returns-clause-none c = none_is_found
