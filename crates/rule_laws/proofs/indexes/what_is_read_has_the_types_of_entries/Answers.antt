use Rattle.rule_laws.proofs.Typing.{are_typed}
use Rattle.rule_laws.proofs.indexes.what_is_read_has_the_types_of_entries.Goals as goal

pub returns : goal.returns
returns c = are_typed
