use Rattle.eval_laws.proofs.Options.{filter_is_last, no_prefix_is_empty, prefix_is_last, subsystem_is_last}
use Rattle.eval_laws.proofs.lookups.the_last_of_an_option_counts.Goals as goal

pub returns-clause-subsystem : goal.returns-clause-subsystem
returns-clause-subsystem c = subsystem_is_last

pub returns-clause-prefix : goal.returns-clause-prefix
returns-clause-prefix c = prefix_is_last

pub returns-clause-no_prefix : goal.returns-clause-no_prefix
returns-clause-no_prefix c = no_prefix_is_empty

pub returns-clause-filter : goal.returns-clause-filter
returns-clause-filter c = filter_is_last
