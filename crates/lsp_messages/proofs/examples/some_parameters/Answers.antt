use Rattle.std.proofs.Common.{refl}
use Rattle.lsp_messages.proofs.OnLiterals.{messages_on_literals}
use Rattle.lsp_messages.proofs.examples.some_parameters.Goals as goal

pub returns-clause-uri : goal.returns-clause-uri
unfolding messages_on_literals
returns-clause-uri c = refl

pub returns-clause-opened : goal.returns-clause-opened
unfolding messages_on_literals
returns-clause-opened c = refl

pub returns-clause-bare : goal.returns-clause-bare
unfolding messages_on_literals
returns-clause-bare c = refl

pub returns-clause-lacking : goal.returns-clause-lacking
unfolding messages_on_literals
returns-clause-lacking c = refl

pub returns-clause-placed : goal.returns-clause-placed
unfolding messages_on_literals
returns-clause-placed c = refl

pub returns-clause-ranged : goal.returns-clause-ranged
unfolding messages_on_literals
returns-clause-ranged c = refl

pub returns-clause-version : goal.returns-clause-version
unfolding messages_on_literals
returns-clause-version c = refl

pub returns-clause-great : goal.returns-clause-great
unfolding messages_on_literals
returns-clause-great c = refl
