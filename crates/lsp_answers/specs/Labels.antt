-- Labels and their jumps.
use Rattle.std.specs.Prelude.{ℕ, List, [], ◌∷◌, Option, Some, None, codes, map, option_and_then, slice_index_or}
use Rattle.std.specs.Option.{option_map_or}
use Rattle.text_bytes.specs.declared.source_file.FileKind.{FileKind}
use Rattle.text_bytes.specs.declared.source_file.FileKind.TheVariants.{Hwdb, Rules}
use Rattle.text_bytes.specs.Text.{Text}
use Rattle.json.specs.Json.{Json, null, string}
use Rattle.text_json.specs.Values.{array_of, object_of}
use Rattle.lsp_answers.specs.Documents.{kind_of}
use Rattle.lsp_words.specs.Jumps.{definition_of, mark_at, references_of}
use Rattle.lsp_words.specs.Marks.{marks_of, MarkValue}
use Rattle.lsp_messages.specs.Rows.{rows_of}
use Rattle.lsp_messages.specs.declared.counting.Encoding.{Encoding}
use Rattle.lsp_answers.specs.Queries.{QueryValue}
use Rattle.lsp_answers.specs.Spots.{row_range, spot_at}

-- a row by its number, counted from 0; empty if there is none
abbrev pub row_numbered : List Text → ℕ → Text
row_numbered rows line = slice_index_or rows line []

-- where a label is named: the document, and the range of the name
unfoldable pub location_value : Encoding → (uri : Text) → List Text → MarkValue → Json
location_value encoding uri rows mark =
    object_of
    ((codes "uri", string uri) ∷ (codes "range", row_range encoding mark.line (row_numbered rows mark.line) mark.start mark.end) ∷ [])

-- the labels and the jumps of a document of a kind: those of rules
abbrev pub marks_in : FileKind → List Text → List MarkValue
marks_in Rules rows = marks_of rows
marks_in Hwdb rows = []

-- the label or the jump that a query is about
abbrev pub mark_asked : Encoding → QueryValue → List MarkValue → Option MarkValue
mark_asked encoding query marks = let spot = spot_at encoding query.text query.start in mark_at marks spot.line spot.at

-- where a mark is, if there is one
abbrev pub location_or_null : Encoding → (uri : Text) → List Text → Option MarkValue → Json
location_or_null encoding uri rows None = null
location_or_null encoding uri rows (Some mark) = location_value encoding uri rows mark

-- the label that a jump goes to, or the label itself that a query is about
abbrev pub label_asked : Encoding → QueryValue → List MarkValue → Option MarkValue
label_asked encoding query marks = option_and_then (definition_of marks) (mark_asked encoding query marks)

-- the answer to a request for the label of a jump
unfoldable pub definition : Encoding → QueryValue → Json
definition encoding query =
    let rows = rows_of query.text in
    location_or_null encoding query.uri rows (label_asked encoding query (marks_in (kind_of query.uri) rows))

-- the jumps to a label, and the labels of its name if they are asked for
abbrev pub marks_asked : Encoding → QueryValue → List MarkValue → List MarkValue
marks_asked encoding query marks = option_map_or (λ mark. references_of marks mark query.declaration) (mark_asked encoding query marks) []

-- the answer to a request for where a label is named
unfoldable pub references : Encoding → QueryValue → Json
references encoding query =
    let rows = rows_of query.text in
    array_of (map (location_value encoding query.uri rows) (marks_asked encoding query (marks_in (kind_of query.uri) rows)))
