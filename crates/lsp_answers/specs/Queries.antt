-- What a request about a document asks for.
use Rattle.std.specs.Prelude.{Bool, List, [], ◌∷◌, Option, Some, None, Result, Ok, Err, codes, find, option_map}
use Rattle.std.specs.Str.{bytes_eq}
use Rattle.text_tables.specs.Pairs.{value_of}
use Rattle.text_bytes.specs.Text.{Text}
use Rattle.json.specs.Json.{Json}
use Rattle.lsp_messages.specs.Parameters.{PlacedValue, RangedValue, includes_declaration, placed_of, ranged_of, uri_of}
use Rattle.lsp_messages.specs.declared.errors.ErrorCode.{ErrorCode}
use Rattle.lsp_messages.specs.declared.errors.ErrorCode.TheVariants.{InvalidParams, MethodNotFound}
use Rattle.lsp_messages.specs.declared.documents.Document.{Document}
use Rattle.lsp_messages.specs.declared.documents.Document.TheVariants.{InStep, OutOfStep}
use Rattle.lsp_messages.specs.declared.rows.Position.{Position}
use Rattle.lsp_answers.specs.declared.queries.Method.{Method}
use Rattle.lsp_answers.specs.declared.queries.Method.TheVariants.{Actions, Completion, Definition, Formatting, Hover, References, Symbols}
use Rattle.lsp_answers.specs.declared.queries.Query.{Query}

-- the name of a method
abbrev pub method_name : Method → Text
method_name Hover = codes "textDocument/hover"
method_name Completion = codes "textDocument/completion"
method_name Definition = codes "textDocument/definition"
method_name References = codes "textDocument/references"
method_name Symbols = codes "textDocument/documentSymbol"
method_name Actions = codes "textDocument/codeAction"
method_name Formatting = codes "textDocument/formatting"

-- the method with a name, if there is one
unfoldable pub method_of : Text → Option Method
method_of name =
    find (λ method. bytes_eq name (method_name method)) (Hover ∷ Completion ∷ Definition ∷ References ∷ Symbols ∷ Actions ∷ Formatting ∷ [])

-- a query: the method, the document with its URI and its text, the range that it is about, and whether the declaration is asked for
pub record QueryValue : Type 0 where
  pub method : Method
  pub uri : Text
  pub text : Text
  pub start : Position
  pub end : Position
  pub declaration : Bool

-- what a contract sees of a query
abbrev pub shown : Query → QueryValue
shown q = record { method = q.method; uri = q.uri.now; text = q.text.now; start = q.start; end = q.end; declaration = q.declaration }

-- the start of a document
abbrev pub origin : Position
origin = record { line = 0; character = 0 }

-- a document as a range at its start, and a place as a range
abbrev pub whole : Text → RangedValue
whole uri = record { uri = uri; start = origin; end = origin }

abbrev pub point : PlacedValue → RangedValue
point p = record { uri = p.uri; start = p.position; end = p.position }

-- the range that the parameters of a method are about: actions have one, symbols and formatting are about a whole document, and
-- all else is about a place
abbrev pub range_asked : Method → Json → Option RangedValue
range_asked Actions params = ranged_of params
range_asked Symbols params = option_map whole (uri_of params)
range_asked Formatting params = option_map whole (uri_of params)
range_asked _ params = option_map point (placed_of params)

-- a query about a document that is open, or the error that it is not, or that its text is not known
abbrev pub query_about : Method → Json → RangedValue → Option Document → Result QueryValue ErrorCode
query_about method params range None = Err InvalidParams
query_about method params range (Some OutOfStep) = Err InvalidParams
query_about method params range (Some (InStep version text)) = Ok (record {
  method = method;
  uri = range.uri;
  text = text;
  start = range.start;
  end = range.end;
  declaration = includes_declaration params;
})

-- a query by the range that its parameters give, if they give one
abbrev pub query_in : List (Text × Document) → Method → Json → Option RangedValue → Result QueryValue ErrorCode
query_in documents method params None = Err InvalidParams
query_in documents method params (Some range) = query_about method params range (value_of documents range.uri)

-- a query by its parameters, if there are some
abbrev pub query_with : List (Text × Document) → Method → Option Json → Result QueryValue ErrorCode
query_with documents method None = Err InvalidParams
query_with documents method (Some params) = query_in documents method params (range_asked method params)

-- a query by its method, if there is such a method
abbrev pub query_by : List (Text × Document) → Option Method → Option Json → Result QueryValue ErrorCode
query_by documents None params = Err MethodNotFound
query_by documents (Some method) params = query_with documents method params

-- the query that a request is
abbrev pub query_of : List (Text × Document) → (method : Text) → Option Json → Result QueryValue ErrorCode
query_of documents method params = query_by documents (method_of method) params
