use Rattle.rule_laws.proofs.Answering.{query_is, sources_are}
use Rattle.rule_laws.proofs.written.indexes_answer_as_their_entries.Goals as goal

pub returns : goal.returns
returns c = record { query = query_is; sources = sources_are }
