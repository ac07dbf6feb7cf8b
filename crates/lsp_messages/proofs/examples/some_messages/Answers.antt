use Rattle.std.proofs.Common.{refl}
use Rattle.lsp_messages.proofs.OnLiterals.{messages_on_literals}
use Rattle.lsp_messages.proofs.examples.some_messages.Goals as goal

pub returns-clause-request : goal.returns-clause-request
unfolding messages_on_literals
returns-clause-request c = refl

pub returns-clause-word : goal.returns-clause-word
unfolding messages_on_literals
returns-clause-word c = refl

pub returns-clause-notification : goal.returns-clause-notification
unfolding messages_on_literals
returns-clause-notification c = refl

pub returns-clause-response : goal.returns-clause-response
unfolding messages_on_literals
returns-clause-response c = refl

pub returns-clause-error : goal.returns-clause-error
unfolding messages_on_literals
returns-clause-error c = refl
