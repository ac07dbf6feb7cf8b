use Rattle.std.proofs.Common.{refl}
use Rattle.text_core.specs.Fnmatch.{fnmatch_first}
use Rattle.rule_laws.proofs.udev_patterns.quoted_byte_means_itself.Goals as goal

pub returns : goal.returns
unfolding fnmatch_first
returns c = λ reading b t. refl
