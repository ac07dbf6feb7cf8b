use Rattle.rule_laws.proofs.Indexing.{accepted, answers, lists, reports, short}
use Rattle.rule_laws.proofs.indexes.what_is_read_makes_an_index.Goals as goal

pub returns : goal.returns
returns c = record { accepted = accepted; length = short; listed = lists; query = answers; sources = reports }
