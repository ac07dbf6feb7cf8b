use Rattle.text_tables.proofs.ByName.{by_name_values}
use Rattle.eval_laws.proofs.turns.sorted_properties_have_their_values.Goals as goal

pub returns : goal.returns
returns c = by_name_values
