use Rattle.text_tables.proofs.Found.{set_after}
use Rattle.text_tables.proofs.laws.new_names_come_last.Goals as goal

pub returns : goal.returns
returns g c = set_after
