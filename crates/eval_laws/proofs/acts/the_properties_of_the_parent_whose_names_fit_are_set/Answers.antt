use Rattle.eval_laws.proofs.Importing.{parent_absent, parent_there}
use Rattle.eval_laws.proofs.acts.the_properties_of_the_parent_whose_names_fit_are_set.Goals as goal

pub returns-clause-there : goal.returns-clause-there
returns-clause-there c = λ known rule names written scene parent manual. parent_there known rule scene manual names written parent

pub returns-clause-absent : goal.returns-clause-absent
returns-clause-absent c = λ known rule names written scene manual. parent_absent known rule scene manual names written
