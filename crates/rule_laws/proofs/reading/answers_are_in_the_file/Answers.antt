use Rattle.rule_laws.proofs.InBytes.{query_in_place, sources_in_place}
use Rattle.rule_laws.proofs.reading.answers_are_in_the_file.Goals as goal

pub returns : goal.returns
returns c = record { query = query_in_place; sources = sources_in_place }
