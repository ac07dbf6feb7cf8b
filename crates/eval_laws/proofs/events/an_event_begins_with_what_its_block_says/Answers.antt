use Rattle.eval_laws.proofs.Beginning.{action_is, node_is, number_is, path_is, property_is, subsystem_is}
use Rattle.eval_laws.proofs.events.an_event_begins_with_what_its_block_says.Goals as goal

pub returns-clause-action : goal.returns-clause-action
returns-clause-action c = action_is

pub returns-clause-path : goal.returns-clause-path
returns-clause-path c = path_is

pub returns-clause-subsystem : goal.returns-clause-subsystem
returns-clause-subsystem c = subsystem_is

pub returns-clause-node : goal.returns-clause-node
returns-clause-node c = node_is

pub returns-clause-number : goal.returns-clause-number
returns-clause-number c = number_is

pub returns-clause-properties : goal.returns-clause-properties
returns-clause-properties c = property_is
