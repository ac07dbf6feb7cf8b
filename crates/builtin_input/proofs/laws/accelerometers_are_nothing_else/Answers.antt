use Rattle.builtin_input.proofs.KindLaws.{alone}
use Rattle.builtin_input.proofs.laws.accelerometers_are_nothing_else.Goals as goal

pub returns : goal.returns
returns c = alone
