-- The parameters of requests and notifications.
use Rattle.std.specs.Prelude.{ℕ, ◌^◌, Bool, false, Option, Some, None, codes, if◌then◌else◌, nat_lt, option_and_then, option_map, unwrap_or}
use Rattle.text_bytes.specs.Text.{Text}
use Rattle.json.specs.Json.{Json}
use Rattle.json.specs.Find.{as_bool, as_str, get}
use Rattle.lsp_messages.specs.Positions.{number_at, position_at, range_of}
use Rattle.lsp_messages.specs.declared.parameters.Opened.{Opened}
use Rattle.lsp_messages.specs.declared.parameters.Placed.{Placed}
use Rattle.lsp_messages.specs.declared.parameters.Ranged.{Ranged}
use Rattle.lsp_messages.specs.declared.rows.Position.{Position}

-- the string that a member is
abbrev pub string_at : Text → Json → Option Text
string_at name value = option_and_then as_str (get name value)

-- the URI of the document that parameters are about
unfoldable pub uri_of : Json → Option Text
uri_of params = option_and_then (string_at (codes "uri")) (get (codes "textDocument") params)

-- the version that a document has: the numbers of the protocol are below 2^31
abbrev pub version_in : Json → Option ℕ
version_in document = option_and_then (λ number. if nat_lt number (2 ^ 31) then Some number else None) (number_at (codes "version") document)

-- the version of the document that parameters are about
unfoldable pub version_of : Json → Option ℕ
version_of params = option_and_then version_in (get (codes "textDocument") params)

-- a document that was opened
pub record OpenedValue : Type 0 where
  pub uri : Text
  pub language : Option Text
  pub version : Option ℕ
  pub text : Text

-- what a contract sees of a document that was opened
abbrev pub opened_shown : Opened → OpenedValue
opened_shown o = record { uri = o.uri.now; language = option_map (λ t. t.now) o.language; version = o.version; text = o.text.now }

-- the document that parameters say was opened: it has to have a URI and a text
unfoldable pub opened_of : Json → Option OpenedValue
opened_of params =
    option_and_then (λ document. option_and_then (λ uri. option_map (λ text. record {
      uri = uri;
      language = string_at (codes "languageId") document;
      version = version_in document;
      text = text;
    }) (string_at (codes "text") document)) (string_at (codes "uri") document)) (get (codes "textDocument") params)

-- a place in a document
pub record PlacedValue : Type 0 where
  pub uri : Text
  pub position : Position

abbrev pub placed_shown : Placed → PlacedValue
placed_shown p = record { uri = p.uri.now; position = p.position }

-- the place that parameters are about
unfoldable pub placed_of : Json → Option PlacedValue
placed_of params =
    option_and_then (λ uri. option_map (λ position. record { uri = uri; position = position }) (position_at (codes "position") params)) (uri_of params)

-- a range of a document
pub record RangedValue : Type 0 where
  pub uri : Text
  pub start : Position
  pub end : Position

abbrev pub ranged_shown : Ranged → RangedValue
ranged_shown r = record { uri = r.uri.now; start = r.start; end = r.end }

-- the range that parameters are about
unfoldable pub ranged_of : Json → Option RangedValue
ranged_of params =
    option_and_then (λ uri. option_map (λ range. record { uri = uri; start = range.0; end = range.1 })
    (option_and_then range_of (get (codes "range") params))) (uri_of params)

-- whether parameters ask for the declaration beside the references
unfoldable pub includes_declaration : Json → Bool
includes_declaration params =
    unwrap_or (option_and_then as_bool (option_and_then (get (codes "includeDeclaration")) (get (codes "context") params))) false
