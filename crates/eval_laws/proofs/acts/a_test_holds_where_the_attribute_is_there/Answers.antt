use Rattle.eval_laws.proofs.Importing.{test_made, test_unmade}
use Rattle.eval_laws.proofs.acts.a_test_holds_where_the_attribute_is_there.Goals as goal

pub returns-clause-made : goal.returns-clause-made
returns-clause-made c = λ known rule template scene path manual. test_made known rule scene manual template path

pub returns-clause-unmade : goal.returns-clause-unmade
returns-clause-unmade c = λ known rule mask template scene path manual. test_unmade known rule scene manual mask template path
