use Rattle.std.proofs.Common.{refl}
use Rattle.lsp_answers.specs.Edits.{formatting}
use Rattle.lsp_answers.specs.Labels.{definition, references}
use Rattle.lsp_answers.proofs.laws.databases_have_no_labels.Goals as goal

pub returns-clause-definition : goal.returns-clause-definition
unfolding definition
returns-clause-definition c encoding query is = rw is refl

pub returns-clause-references : goal.returns-clause-references
unfolding references
returns-clause-references c encoding query is = rw is refl

pub returns-clause-formatting : goal.returns-clause-formatting
unfolding formatting
returns-clause-formatting c encoding query is = rw is refl
