use Rattle.engine_reports.proofs.Bounds.{entries_said, index_said, rules_said}
use Rattle.engine_reports.proofs.delivery.deliver_refusal.Goals as goal

pub returns-in-TooManyEntries-clause-delivers : goal.returns-in-TooManyEntries-clause-delivers
returns-in-TooManyEntries-clause-delivers g c outcome said = rw (entries_said c.args.refusal outcome c.in-TooManyEntries.is said) c.deliver.ensures

pub returns-in-TooManyRules-clause-delivers : goal.returns-in-TooManyRules-clause-delivers
returns-in-TooManyRules-clause-delivers g c outcome said = rw (rules_said c.args.refusal outcome c.in-TooManyRules.is said) c.deliver-in-TooManyRules.ensures

pub returns-in-Index-clause-delivers : goal.returns-in-Index-clause-delivers
returns-in-Index-clause-delivers g c outcome said = rw (index_said c.args.refusal c.in-Index.fault outcome c.in-Index.is said) c.deliver_index_fault.ensures
