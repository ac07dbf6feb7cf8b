use Rattle.hwdb_core.proofs.Earlier.{all_matches}
use Rattle.hwdb_core.proofs.earlier_laws.all_earlier_matches_count.Goals as goal

pub returns : goal.returns
returns c = all_matches
