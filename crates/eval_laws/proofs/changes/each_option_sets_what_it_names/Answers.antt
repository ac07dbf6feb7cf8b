use Rattle.eval_laws.proofs.Setting.{nowatch_is, persist_is, priority_is, watch_is}
use Rattle.eval_laws.proofs.changes.each_option_sets_what_it_names.Goals as goal

pub returns-clause-priority : goal.returns-clause-priority
returns-clause-priority c = priority_is

pub returns-clause-watch : goal.returns-clause-watch
returns-clause-watch c = watch_is

pub returns-clause-nowatch : goal.returns-clause-nowatch
returns-clause-nowatch c = nowatch_is

pub returns-clause-persist : goal.returns-clause-persist
returns-clause-persist c = persist_is
