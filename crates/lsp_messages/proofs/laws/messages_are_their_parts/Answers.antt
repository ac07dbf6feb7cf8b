use Rattle.std.proofs.Common.{sym}
use Rattle.lsp_messages.proofs.Written.{notification_listed, response_listed}
use Rattle.lsp_messages.proofs.laws.messages_are_their_parts.Goals as goal

pub returns-clause-response : goal.returns-clause-response
returns-clause-response c id result = sym (response_listed id result)

pub returns-clause-notification : goal.returns-clause-notification
returns-clause-notification c method params = sym (notification_listed method params)
