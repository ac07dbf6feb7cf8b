use Rattle.eval_laws.proofs.Attributes.{long_is_too_long, manual_renders}
use Rattle.eval_laws.proofs.rendering.long_attributes_are_too_long.Goals as goal

pub returns-clause-manual : goal.returns-clause-manual
returns-clause-manual c = manual_renders

pub returns-clause-udev : goal.returns-clause-udev
returns-clause-udev c = long_is_too_long
