use Rattle.engine_checks.proofs.LintsReported.{asked_database_lints, asked_lints, unasked_database_lints, unasked_lints}
use Rattle.engine_checks.proofs.lint_laws.lints_are_reported_where_asked.Goals as goal

pub returns-clause-asked : goal.returns-clause-asked
returns-clause-asked c line file e = asked_lints line file e

pub returns-clause-unasked : goal.returns-clause-unasked
returns-clause-unasked c line file e = unasked_lints line file e

pub returns-clause-database : goal.returns-clause-database
returns-clause-database c line file e = asked_database_lints line file e

pub returns-clause-no_database : goal.returns-clause-no_database
returns-clause-no_database c line file e = unasked_database_lints line file e
