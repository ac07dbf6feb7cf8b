use Rattle.std.proofs.Common.{refl}
use Rattle.lsp_messages.proofs.OnLiterals.{messages_on_literals}
use Rattle.lsp_messages.proofs.examples.some_positions.Goals as goal

pub returns-clause-place : goal.returns-clause-place
unfolding messages_on_literals
returns-clause-place c = refl

pub returns-clause-order : goal.returns-clause-order
unfolding messages_on_literals
returns-clause-order c = refl

pub returns-clause-most : goal.returns-clause-most
unfolding messages_on_literals
returns-clause-most c = refl

pub returns-clause-great : goal.returns-clause-great
unfolding messages_on_literals
returns-clause-great c = refl

pub returns-clause-sign : goal.returns-clause-sign
unfolding messages_on_literals
returns-clause-sign c = refl

pub returns-clause-fraction : goal.returns-clause-fraction
unfolding messages_on_literals
returns-clause-fraction c = refl

pub returns-clause-exponent : goal.returns-clause-exponent
unfolding messages_on_literals
returns-clause-exponent c = refl

pub returns-clause-word : goal.returns-clause-word
unfolding messages_on_literals
returns-clause-word c = refl

pub returns-clause-lacking : goal.returns-clause-lacking
unfolding messages_on_literals
returns-clause-lacking c = refl

pub returns-clause-range : goal.returns-clause-range
unfolding messages_on_literals
returns-clause-range c = refl

pub returns-clause-greatest : goal.returns-clause-greatest
unfolding messages_on_literals
returns-clause-greatest c = refl

pub returns-clause-point : goal.returns-clause-point
unfolding messages_on_literals
returns-clause-point c = refl

pub returns-clause-both : goal.returns-clause-both
unfolding messages_on_literals
returns-clause-both c = refl

pub returns-clause-down : goal.returns-clause-down
unfolding messages_on_literals
returns-clause-down c = refl

pub returns-clause-zero : goal.returns-clause-zero
unfolding messages_on_literals
returns-clause-zero c = refl

pub returns-clause-small : goal.returns-clause-small
unfolding messages_on_literals
returns-clause-small c = refl

pub returns-clause-deep : goal.returns-clause-deep
unfolding messages_on_literals
returns-clause-deep c = refl
