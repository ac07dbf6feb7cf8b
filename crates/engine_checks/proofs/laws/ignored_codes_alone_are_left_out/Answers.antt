use Rattle.engine_checks.proofs.Among.{database_plainly_reported, rules_plainly_reported}
use Rattle.engine_checks.proofs.laws.ignored_codes_alone_are_left_out.Goals as goal

pub returns-clause-rules : goal.returns-clause-rules
returns-clause-rules c line file counts = rules_plainly_reported line file counts

pub returns-clause-database : goal.returns-clause-database
returns-clause-database c line file counts = database_plainly_reported line file counts
