use Rattle.std.proofs.Common.{ap}
use Rattle.lsp_answers.specs.Queries.{query_by}
use Rattle.lsp_answers.proofs.laws.other_methods_are_not_found.Goals as goal

pub returns : goal.returns
returns c documents method params none = ap (λ found. query_by documents found params) none
