use Rattle.std.proofs.Common.{refl}
use Rattle.text_bytes.specs.Texts.{split_once}
use Rattle.device_core.specs.Blocks.{behind_in}
use Rattle.device_core.specs.Parts.{pair_of}
use Rattle.device_core.proofs.laws.a_property_of_the_farthest_parent.Goals as goal

pub returns : goal.returns
unfolding behind_in pair_of split_once
returns c = refl
