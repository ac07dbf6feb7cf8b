-- What is told about the word at a place.
use Rattle.std.specs.Prelude.{◌-◌, [], ◌∷◌, Option, Some, None, codes, drop, option_and_then, option_map, take}
use Rattle.text_bytes.specs.declared.source_file.FileKind.{FileKind}
use Rattle.text_bytes.specs.Text.{Text}
use Rattle.json.specs.Json.{Json, null, string}
use Rattle.text_json.specs.Values.{object_of}
use Rattle.file_catalogue.specs.Sections.{explanation}
use Rattle.lsp_answers.specs.Documents.{kind_of}
use Rattle.lsp_messages.specs.declared.counting.Encoding.{Encoding}
use Rattle.lsp_words.specs.Codes.{code_at}
use Rattle.lsp_words.specs.Meanings.{Found, meaning_at}
use Rattle.lsp_words.specs.declared.codes.CodeWord.{CodeWord}
use Rattle.lsp_answers.specs.Queries.{QueryValue}
use Rattle.lsp_answers.specs.Spots.{Spot, row_range, spot_at}

-- a text as Markdown
unfoldable pub markdown : Text → Json
markdown text = object_of ((codes "kind", string (codes "markdown")) ∷ (codes "value", string text) ∷ [])

-- what is told about a word of a row, with its place
unfoldable pub told_value : Encoding → Spot → Found → Json
told_value encoding spot found =
    object_of ((codes "contents", markdown found.text) ∷ (codes "range", row_range encoding spot.line spot.row found.start found.end) ∷ [])

-- the section on a code that stands in a row, if there is such a code
abbrev pub section_found : Text → CodeWord → Option Found
section_found row word =
    option_map (λ section. record { start = word.start; end = word.end; text = section })
    (explanation (take (word.end - word.start) (drop word.start row)))

-- what is told about a word in a comment: the section on it, if it is a code
abbrev pub found_in_comment : FileKind → Spot → Option Found
found_in_comment kind spot = option_and_then (section_found spot.row) (code_at kind spot.row spot.at)

-- what is told if a table has the word, and else what is told in a comment
abbrev pub found_or : Option Found → Option Found → Option Found
found_or (Some found) other = Some found
found_or None other = other

-- what is told about the word at a place of a row
unfoldable pub found_at : FileKind → Spot → Option Found
found_at kind spot = found_or (meaning_at kind spot.row spot.at) (found_in_comment kind spot)

-- what is told, if anything is
abbrev pub told_or_null : Encoding → Spot → Option Found → Json
told_or_null encoding spot None = null
told_or_null encoding spot (Some found) = told_value encoding spot found

-- the answer to a request for what a word means
unfoldable pub hover : Encoding → QueryValue → Json
hover encoding query =
    let spot = spot_at encoding query.text query.start in told_or_null encoding spot (found_at (kind_of query.uri) spot)
