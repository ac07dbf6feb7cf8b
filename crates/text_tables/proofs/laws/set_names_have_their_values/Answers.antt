use Rattle.text_tables.proofs.Found.{value_set}
use Rattle.text_tables.proofs.laws.set_names_have_their_values.Goals as goal

pub returns : goal.returns
returns g c = value_set
