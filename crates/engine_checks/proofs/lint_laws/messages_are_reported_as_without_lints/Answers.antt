use Rattle.engine_checks.proofs.Among.{messages_plainly_reported}
use Rattle.engine_checks.proofs.LintsReported.{same_messages}
use Rattle.engine_checks.proofs.lint_laws.messages_are_reported_as_without_lints.Goals as goal

pub returns-clause-messages : goal.returns-clause-messages
returns-clause-messages c line file = same_messages line file

pub returns-clause-unasked : goal.returns-clause-unasked
returns-clause-unasked c line file unasked counts = messages_plainly_reported line file counts unasked
