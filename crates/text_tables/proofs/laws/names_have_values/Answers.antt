use Rattle.text_tables.proofs.Found.{named_is}
use Rattle.text_tables.proofs.laws.names_have_values.Goals as goal

pub returns : goal.returns
returns g c = named_is
