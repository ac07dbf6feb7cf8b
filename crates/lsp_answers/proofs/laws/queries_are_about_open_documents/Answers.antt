use Rattle.std.proofs.Common.{◌≡◌, ℕ, List, Option, Some, None, IfOk, refl}
use Rattle.text_tables.specs.Pairs.{value_of}
use Rattle.text_bytes.specs.Text.{Text}
use Rattle.json.specs.Json.{Json}
use Rattle.lsp_messages.specs.Parameters.{RangedValue}
use Rattle.lsp_messages.specs.declared.documents.Document.{Document}
use Rattle.lsp_messages.specs.declared.documents.Document.TheVariants.{InStep, OutOfStep}
use Rattle.lsp_answers.specs.Queries.{QueryValue, method_of, query_about, query_by, query_in, query_with, range_asked}
use Rattle.lsp_answers.specs.declared.queries.Method.{Method}
use Rattle.lsp_answers.proofs.laws.queries_are_about_open_documents.Goals as goal

-- the document of a query is open and in step, and has its text
abbrev IsAboutOpen : List (Text × Document) → QueryValue → Type 0
IsAboutOpen documents query = (version : Option ℕ) × (value_of documents query.uri ≡ Some (InStep version query.text))

about : (documents : List (Text × Document)) (method : Method) (params : Json) (range : RangedValue) (found : Option Document)
    → value_of documents range.uri ≡ found → IfOk (query_about method params range found) (IsAboutOpen documents)
about documents method params range None e = tt
about documents method params range (Some OutOfStep) e = tt
about documents method params range (Some (InStep version text)) e = (version, e)

ranged : (documents : List (Text × Document)) (method : Method) (params : Json) (range : Option RangedValue)
    → IfOk (query_in documents method params range) (IsAboutOpen documents)
ranged documents method params None = tt
ranged documents method params (Some range) = about documents method params range (value_of documents range.uri) refl

given : (documents : List (Text × Document)) (method : Method) (params : Option Json) → IfOk (query_with documents method params) (IsAboutOpen documents)
given documents method None = tt
given documents method (Some params) = ranged documents method params (range_asked method params)

named : (documents : List (Text × Document)) (method : Option Method) (params : Option Json) → IfOk (query_by documents method params) (IsAboutOpen documents)
named documents None params = tt
named documents (Some method) params = given documents method params

pub returns : goal.returns
returns c documents method params = named documents (method_of method) params
