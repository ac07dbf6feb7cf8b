use Rattle.eval_laws.proofs.Importing.{database_set}
use Rattle.eval_laws.proofs.acts.what_the_database_has_is_set.Goals as goal

pub returns : goal.returns
returns c = λ known rule template scene command hwdb manual. database_set known rule scene manual template command hwdb
