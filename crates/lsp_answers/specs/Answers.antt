-- The answer to a query about a document.
use Rattle.json.specs.Json.{Json}
use Rattle.lsp_answers.specs.Settings.{Settings}
use Rattle.lsp_messages.specs.declared.counting.Encoding.{Encoding}
use Rattle.lsp_answers.specs.Actions.{actions}
use Rattle.lsp_answers.specs.Edits.{formatting}
use Rattle.lsp_answers.specs.Hovers.{hover}
use Rattle.lsp_answers.specs.Labels.{definition, references}
use Rattle.lsp_answers.specs.Offers.{completion}
use Rattle.lsp_answers.specs.Queries.{QueryValue}
use Rattle.lsp_answers.specs.Symbols.{symbols}
use Rattle.lsp_answers.specs.declared.queries.Method.{Method}
use Rattle.lsp_answers.specs.declared.queries.Method.TheVariants.{Actions, Completion, Definition, Formatting, Hover, References, Symbols}

-- the answer by the method of a query
abbrev pub answer_by : Method → Encoding → Settings → QueryValue → Json
answer_by Hover encoding settings query = hover encoding query
answer_by Completion encoding settings query = completion encoding query
answer_by Definition encoding settings query = definition encoding query
answer_by References encoding settings query = references encoding query
answer_by Symbols encoding settings query = symbols encoding query
answer_by Actions encoding settings query = actions encoding settings query
answer_by Formatting encoding settings query = formatting encoding query

-- the answer to a query, with characters counted in this encoding
unfoldable pub answer : Encoding → Settings → QueryValue → Json
answer encoding settings query = answer_by query.method encoding settings query
