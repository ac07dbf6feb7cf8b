use Rattle.std.proofs.Common.{refl}
use Rattle.rule_places.proofs.Computing.{computed}
use Rattle.rule_places.proofs.examples.other_lines_stay.Goals as goal

pub returns : goal.returns
unfolding computed
returns c = refl
