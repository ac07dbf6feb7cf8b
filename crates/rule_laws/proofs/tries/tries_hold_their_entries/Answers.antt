use Rattle.rule_laws.proofs.Holding.{paths_in_place}
use Rattle.rule_laws.proofs.tries.tries_hold_their_entries.Goals as goal

pub returns : goal.returns
returns c = record { paths = paths_in_place; values = λ t i is. is.each i }
