use Rattle.lsp_messages.proofs.ReadBack.{error_read, error_without_id_read, notification_read, response_read}
use Rattle.lsp_messages.proofs.laws.messages_are_read_back.Goals as goal

pub returns-clause-response : goal.returns-clause-response
returns-clause-response c = response_read

pub returns-clause-error : goal.returns-clause-error
returns-clause-error c = error_read

pub returns-clause-no_id : goal.returns-clause-no_id
returns-clause-no_id c = error_without_id_read

pub returns-clause-notification : goal.returns-clause-notification
returns-clause-notification c = notification_read
