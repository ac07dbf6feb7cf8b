use Rattle.std.proofs.Common.{refl}
use Rattle.example_laws.proofs.Computing.{computed}
use Rattle.example_laws.proofs.stored.an_answer_may_have_several_lines.Goals as goal

pub returns : goal.returns
unfolding computed
returns c = refl
