use Rattle.text_tables.proofs.Found.{set_in_place}
use Rattle.text_tables.proofs.laws.set_names_stay_in_place.Goals as goal

pub returns : goal.returns
returns g c = set_in_place
