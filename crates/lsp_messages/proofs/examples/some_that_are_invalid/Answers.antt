use Rattle.std.proofs.Common.{refl}
use Rattle.lsp_messages.proofs.OnLiterals.{messages_on_literals}
use Rattle.lsp_messages.proofs.examples.some_that_are_invalid.Goals as goal

pub returns-clause-null : goal.returns-clause-null
unfolding messages_on_literals
returns-clause-null c = refl

pub returns-clause-object : goal.returns-clause-object
unfolding messages_on_literals
returns-clause-object c = refl

pub returns-clause-method : goal.returns-clause-method
unfolding messages_on_literals
returns-clause-method c = refl

pub returns-clause-id : goal.returns-clause-id
unfolding messages_on_literals
returns-clause-id c = refl

pub returns-clause-batch : goal.returns-clause-batch
unfolding messages_on_literals
returns-clause-batch c = refl

pub returns-clause-text : goal.returns-clause-text
unfolding messages_on_literals
returns-clause-text c = refl
