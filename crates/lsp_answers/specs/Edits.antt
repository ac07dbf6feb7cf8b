-- Edits of documents.
use Rattle.std.specs.Prelude.{◌&&◌, Bool, not, if◌then◌else◌, List, [], ◌∷◌, Option, Some, None, codes, length}
use Rattle.std.specs.Str.{is_utf8}
use Rattle.text_bytes.specs.declared.source_file.FileKind.{FileKind}
use Rattle.text_bytes.specs.declared.source_file.FileKind.TheVariants.{Hwdb, Rules}
use Rattle.text_bytes.specs.Text.{Text}
use Rattle.text_tables.specs.Texts.{same_text}
use Rattle.json.specs.Json.{Json, string}
use Rattle.text_json.specs.Values.{array_of, object_of}
use Rattle.rule_places.specs.Mended.{mended}
use Rattle.lsp_answers.specs.Documents.{kind_of}
use Rattle.lsp_messages.specs.Positions.{range_value}
use Rattle.lsp_messages.specs.Rows.{position_of}
use Rattle.lsp_messages.specs.declared.counting.Encoding.{Encoding}
use Rattle.lsp_answers.specs.Queries.{QueryValue, origin}

-- the edit that puts a text in the place of a whole one
unfoldable pub whole_edit : Encoding → (text new : Text) → Json
whole_edit encoding text new =
    object_of ((codes "range", range_value origin (position_of encoding text (length text))) ∷ (codes "newText", string new) ∷ [])

-- whether mending changes a text, to one that can be told
abbrev pub changes : (text new : Text) → Bool
changes text new = is_utf8 new && not (same_text text new)

-- a document of a kind with its style mended, if that changes it: rules are mended as `fmt` does
abbrev pub mended_as : FileKind → Text → Option Text
mended_as Rules text = if changes text (mended text) then Some (mended text) else None
mended_as Hwdb text = None

-- a document with its style mended, if that changes it
abbrev pub mended_text : (uri text : Text) → Option Text
mended_text uri text = mended_as (kind_of uri) text

-- the edits that put a text in the place of another one, if there is one
abbrev pub edits_to : Encoding → (text : Text) → Option Text → List Json
edits_to encoding text None = []
edits_to encoding text (Some new) = whole_edit encoding text new ∷ []

-- the edits that mend the style of a document
abbrev pub edits : Encoding → (uri text : Text) → List Json
edits encoding uri text = edits_to encoding text (mended_text uri text)

-- the answer to a request for formatting
unfoldable pub formatting : Encoding → QueryValue → Json
formatting encoding query = array_of (edits encoding query.uri query.text)
