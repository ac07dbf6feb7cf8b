use Rattle.builtin_net.proofs.ShortNames.{all_short}
use Rattle.builtin_net.proofs.laws.names_are_short.Goals as goal

pub returns : goal.returns
returns c = all_short
