use Rattle.std.proofs.Common.{sym}
use Rattle.text_json.proofs.Listed.{array_listed}
use Rattle.text_json.proofs.laws.an_array_is_its_values.Goals as goal

pub returns : goal.returns
returns c values = sym (array_listed values)
