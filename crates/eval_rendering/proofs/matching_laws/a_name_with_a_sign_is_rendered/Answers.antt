use Rattle.eval_rendering.proofs.Keys.{long_name, plain_name, short_name}
use Rattle.eval_rendering.proofs.matching_laws.a_name_with_a_sign_is_rendered.Goals as goal

pub returns : goal.returns
returns c = record { plain = plain_name; rendered = short_name; long = long_name }
