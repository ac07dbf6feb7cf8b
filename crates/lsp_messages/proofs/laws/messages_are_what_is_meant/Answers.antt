use Rattle.std.proofs.Common.{cond, Some, refl, ap}
use Rattle.lsp_messages.specs.Messages.{invalid, message_of, request}
use Rattle.lsp_messages.specs.Responses.{error_of, notification_of, response_of}
use Rattle.lsp_messages.proofs.laws.messages_are_what_is_meant.Goals as goal

pub returns-clause-response : goal.returns-clause-response
unfolding message_of response_of
returns-clause-response c id result = refl

pub returns-clause-error : goal.returns-clause-error
unfolding message_of error_of
returns-clause-error c id code said = refl

pub returns-clause-notification : goal.returns-clause-notification
unfolding message_of notification_of
returns-clause-notification c method params = refl

pub returns-clause-request : goal.returns-clause-request
unfolding message_of
returns-clause-request c id params method is = ap (λ b. cond b (request id method (Some params)) invalid) is

pub returns-clause-other : goal.returns-clause-other
unfolding message_of
returns-clause-other c id params method is = ap (λ b. cond b (request id method (Some params)) invalid) is
