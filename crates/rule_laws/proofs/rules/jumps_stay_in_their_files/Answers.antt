use Rattle.rule_laws.proofs.Landing.{jumps_stay}
use Rattle.rule_laws.proofs.rules.jumps_stay_in_their_files.Goals as goal

pub returns : goal.returns
returns c = jumps_stay
