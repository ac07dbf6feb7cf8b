use Rattle.engine_checks.proofs.Among.{database_found_reported, rules_found_reported}
use Rattle.engine_checks.proofs.LeftOut.{left_out, reported_is_kept}
use Rattle.engine_checks.proofs.comment_laws.found_is_reported_or_silenced.Goals as goal

pub returns-clause-rules : goal.returns-clause-rules
returns-clause-rules c line file counts = rules_found_reported line file counts

pub returns-clause-database : goal.returns-clause-database
returns-clause-database c line file counts = database_found_reported line file counts

pub returns-clause-silenced : goal.returns-clause-silenced
returns-clause-silenced c asked comments d e = left_out asked comments d e

pub returns-clause-reported : goal.returns-clause-reported
returns-clause-reported c asked comments d e = reported_is_kept asked comments d e
