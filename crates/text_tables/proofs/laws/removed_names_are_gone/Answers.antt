use Rattle.text_tables.proofs.Found.{value_removed}
use Rattle.text_tables.proofs.laws.removed_names_are_gone.Goals as goal

pub returns : goal.returns
returns g c = value_removed
