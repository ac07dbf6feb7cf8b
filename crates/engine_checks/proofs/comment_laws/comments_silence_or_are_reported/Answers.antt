use Rattle.engine_checks.proofs.Among.{database_remarks_reported, rules_remarks_reported}
use Rattle.engine_checks.proofs.LeftOut.{said_of}
use Rattle.engine_checks.proofs.comment_laws.comments_silence_or_are_reported.Goals as goal

pub returns-clause-rules : goal.returns-clause-rules
returns-clause-rules c line file counts = rules_remarks_reported line file counts

pub returns-clause-database : goal.returns-clause-database
returns-clause-database c line file counts = database_remarks_reported line file counts

pub returns-clause-said : goal.returns-clause-said
returns-clause-said c found ignore = said_of found ignore
