-- For proofs only: what a call gives of a query.
use Rattle.std.specs.Prelude.{◌≡◌, Result, Ok, Err}
use Rattle.lsp_answers.specs.Queries.{QueryValue, shown}
use Rattle.lsp_answers.specs.declared.queries.Query.{Query}
use Rattle.lsp_messages.specs.declared.errors.ErrorCode.{ErrorCode}

-- the result is this query, or this error
abbrev pub GivesQuery : Result Query ErrorCode → Result QueryValue ErrorCode → Type 0
GivesQuery (Ok query) asked = asked ≡ Ok (shown query)
GivesQuery (Err code) asked = asked ≡ Err code
