use Rattle.engine_checks.proofs.Checking.{database_file, rules_file}
use Rattle.engine_checks.proofs.single.a_file_by_itself_is_reported_alike.Goals as goal

pub returns-clause-rules : goal.returns-clause-rules
returns-clause-rules c line asked file a = rules_file line asked a.profile a.accounts a.style a.lint a.ignored file

pub returns-clause-database : goal.returns-clause-database
returns-clause-database c line asked file a = database_file line asked a.profile a.accounts a.style a.lint a.ignored file
