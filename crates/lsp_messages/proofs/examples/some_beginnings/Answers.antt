use Rattle.std.proofs.Common.{refl}
use Rattle.lsp_messages.proofs.OnLiterals.{messages_on_literals}
use Rattle.lsp_messages.proofs.examples.some_beginnings.Goals as goal

pub returns-clause-words : goal.returns-clause-words
unfolding messages_on_literals
returns-clause-words c = refl

pub returns-clause-absent : goal.returns-clause-absent
unfolding messages_on_literals
returns-clause-absent c = refl

pub returns-clause-none : goal.returns-clause-none
unfolding messages_on_literals
returns-clause-none c = refl

pub returns-clause-null : goal.returns-clause-null
unfolding messages_on_literals
returns-clause-null c = refl

pub returns-clause-word : goal.returns-clause-word
unfolding messages_on_literals
returns-clause-word c = refl

pub returns-clause-number : goal.returns-clause-number
unfolding messages_on_literals
returns-clause-number c = refl

pub returns-clause-utf8 : goal.returns-clause-utf8
unfolding messages_on_literals
returns-clause-utf8 c = refl

pub returns-clause-utf16 : goal.returns-clause-utf16
unfolding messages_on_literals
returns-clause-utf16 c = refl

pub returns-clause-silent : goal.returns-clause-silent
unfolding messages_on_literals
returns-clause-silent c = refl
