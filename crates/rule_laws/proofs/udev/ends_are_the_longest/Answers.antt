use Rattle.rule_laws.proofs.Endings.{takes_longest}
use Rattle.rule_laws.proofs.udev.ends_are_the_longest.Goals as goal

pub returns : goal.returns
returns c = takes_longest
