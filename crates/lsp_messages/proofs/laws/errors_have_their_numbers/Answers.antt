use Rattle.std.proofs.Common.{refl}
use Rattle.std.specs.Fmt.{digits}
use Rattle.lsp_messages.proofs.laws.errors_have_their_numbers.Goals as goal

pub returns-clause-parse : goal.returns-clause-parse
unfolding digits
returns-clause-parse c = refl

pub returns-clause-request : goal.returns-clause-request
unfolding digits
returns-clause-request c = refl

pub returns-clause-method : goal.returns-clause-method
unfolding digits
returns-clause-method c = refl

pub returns-clause-params : goal.returns-clause-params
unfolding digits
returns-clause-params c = refl

pub returns-clause-early : goal.returns-clause-early
unfolding digits
returns-clause-early c = refl
