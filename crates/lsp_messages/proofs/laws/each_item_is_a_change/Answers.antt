use Rattle.lsp_messages.proofs.Faults.{as_many, one_fault}
use Rattle.lsp_messages.proofs.laws.each_item_is_a_change.Goals as goal

pub returns-clause-fault : goal.returns-clause-fault
returns-clause-fault c = one_fault

pub returns-clause-count : goal.returns-clause-count
returns-clause-count c = as_many
