use Rattle.std.proofs.Common.{refl}
use Rattle.rule_places.proofs.Computing.{computed}
use Rattle.rule_places.proofs.examples.continued_lines_keep_their_indentation.Goals as goal

pub returns : goal.returns
unfolding computed
returns c = refl
