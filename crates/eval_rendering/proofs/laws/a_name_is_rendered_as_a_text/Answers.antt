use Rattle.eval_rendering.proofs.Naming.{rendered_name}
use Rattle.eval_rendering.proofs.laws.a_name_is_rendered_as_a_text.Goals as goal

pub returns : goal.returns
returns c = λ name text state none is. rendered_name state name text none is
