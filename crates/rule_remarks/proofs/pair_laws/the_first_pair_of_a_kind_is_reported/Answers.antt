use Rattle.rule_remarks.proofs.FirstPairs.{first_reported, reported_once}
use Rattle.rule_remarks.proofs.pair_laws.the_first_pair_of_a_kind_is_reported.Goals as goal

pub returns-clause-first : goal.returns-clause-first
returns-clause-first c = λ kind pairs. first_reported kind pairs

pub returns-clause-once : goal.returns-clause-once
returns-clause-once c = λ kind pairs. reported_once kind pairs
