use Rattle.std.proofs.Common.{refl}
use Rattle.lsp_messages.proofs.OnLiterals.{messages_on_literals}
use Rattle.lsp_messages.proofs.examples.some_changes.Goals as goal

pub returns-clause-both : goal.returns-clause-both
unfolding messages_on_literals
returns-clause-both c = refl

pub returns-clause-empty : goal.returns-clause-empty
unfolding messages_on_literals
returns-clause-empty c = refl

pub returns-clause-lacking : goal.returns-clause-lacking
unfolding messages_on_literals
returns-clause-lacking c = refl

pub returns-clause-range : goal.returns-clause-range
unfolding messages_on_literals
returns-clause-range c = refl

pub returns-clause-absent : goal.returns-clause-absent
unfolding messages_on_literals
returns-clause-absent c = refl
