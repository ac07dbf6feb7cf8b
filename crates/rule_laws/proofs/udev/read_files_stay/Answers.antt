use Rattle.rule_laws.proofs.Endings.{stays_as_read}
use Rattle.rule_laws.proofs.udev.read_files_stay.Goals as goal

pub returns : goal.returns
returns c = stays_as_read
