use Rattle.rule_laws.proofs.Conditions.{first_fault_counts}
use Rattle.rule_laws.proofs.parts.the_first_fault_counts.Goals as goal

pub returns : goal.returns
returns c = first_fault_counts
