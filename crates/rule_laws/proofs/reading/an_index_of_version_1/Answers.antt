use Rattle.rule_laws.proofs.Row1.{accepted, lists}
use Rattle.rule_laws.proofs.reading.an_index_of_version_1.Goals as goal

pub returns : goal.returns
returns c = record { accepted = accepted; listed = lists }
