use Rattle.std.proofs.Common.{◌≡◌, Some, refl}
use Rattle.lsp_answers.specs.Queries.{method_name, method_of}
use Rattle.lsp_answers.specs.declared.queries.Method.{Method}
use Rattle.lsp_answers.specs.declared.queries.Method.TheVariants.{Actions, Completion, Definition, Formatting, Hover, References, Symbols}
use Rattle.lsp_answers.proofs.laws.methods_are_found_by_their_names.Goals as goal

named : (method : Method) → method_of (method_name method) ≡ Some method
unfolding method_of
named Hover = refl
named Completion = refl
named Definition = refl
named References = refl
named Symbols = refl
named Actions = refl
named Formatting = refl

pub returns : goal.returns
returns c = named
