use Rattle.eval_laws.proofs.Meeting.{all_leave, all_reach, never_idle}
use Rattle.eval_laws.proofs.events.a_rule_goes_on_just_where_all_its_keys_let_it.Goals as goal

pub returns-clause-reached : goal.returns-clause-reached
returns-clause-reached c = all_reach

pub returns-clause-leaves : goal.returns-clause-leaves
returns-clause-leaves c = all_leave

pub returns-clause-manual : goal.returns-clause-manual
returns-clause-manual c = never_idle
