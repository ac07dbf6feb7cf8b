use Rattle.eval_laws.proofs.Attributes.{named_is_cut}
use Rattle.eval_laws.proofs.rendering.named_attributes_are_cut.Goals as goal

pub returns : goal.returns
returns c = named_is_cut
