use Rattle.rule_laws.proofs.Known.{known_last}
use Rattle.rule_laws.proofs.udev.known_values_come_last.Goals as goal

pub returns : goal.returns
returns c = known_last
