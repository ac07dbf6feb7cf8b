-- What can be mended in a document.
use Rattle.std.specs.Prelude.{List, [], ◌∷◌, ◌++◌, codes}
use Rattle.text_bytes.specs.Text.{Text}
use Rattle.json.specs.Json.{Json}
use Rattle.text_json.specs.Values.{array_of}
use Rattle.lsp_answers.specs.Fixes.{action, fixes}
use Rattle.lsp_answers.specs.Settings.{Settings}
use Rattle.lsp_messages.specs.declared.counting.Encoding.{Encoding}
use Rattle.lsp_answers.specs.Edits.{edits}
use Rattle.lsp_answers.specs.Queries.{QueryValue}

-- the action that makes edits of style, if there are any
abbrev pub style_actions : (uri : Text) → List Json → List Json
style_actions uri [] = []
style_actions uri (edit ∷ edits) = action (codes "Mend the style of this file") uri (edit ∷ edits) ∷ []

-- the answer to a request for what can be mended: unknown keys in these rows, and the style of the whole document
unfoldable pub actions : Encoding → Settings → QueryValue → Json
actions encoding settings query =
    array_of
    (fixes encoding settings query.uri query.text query.start.line query.end.line ++ style_actions query.uri (edits encoding query.uri query.text))
