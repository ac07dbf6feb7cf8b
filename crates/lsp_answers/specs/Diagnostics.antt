-- Diagnostics as the protocol has them.
use Rattle.std.specs.Prelude.{ℕ, ◌-◌, List, [], ◌∷◌, ◌++◌, Option, Some, None, codes, map, take}
use Rattle.text_bytes.specs.Names.{newline}
use Rattle.text_bytes.specs.Numbers.{capped}
use Rattle.text_bytes.specs.Text.{Text}
use Rattle.json.specs.Json.{Json, string}
use Rattle.text_json.specs.Told.{told}
use Rattle.text_json.specs.Values.{array_of, number_value, object_of}
use Rattle.engine_sessions.specs.Places.{word_part}
use Rattle.engine_formats.specs.Diagnostics.{DiagnosticValue}
use Rattle.engine_formats.specs.Hints.{advice_for}
use Rattle.file_catalogue.specs.Catalogue.{code_of, severity_of, text_of}
use Rattle.lsp_messages.specs.Units.{units}
use Rattle.lsp_messages.specs.declared.rows.Position.{Position}
use Rattle.lsp_messages.specs.declared.counting.Encoding.{Encoding}
use Rattle.lsp_messages.specs.Positions.{range_value}
use Rattle.lsp_answers.specs.Severities.{severity_number, tag_of}

-- what a diagnostic says: its text with the word that it is about, and on the next line how to mend it
unfoldable pub said_of : DiagnosticValue → Text
said_of d = text_of d.remark ++ word_part d.word ++ newline ∷ advice_for d

-- where a column of a line is, both counted from 1 and the column in bytes: so many units of the line precede it
abbrev pub place_of : Encoding → (line column : ℕ) → (source : Text) → Position
place_of encoding line column source = record { line = line - 1; character = capped (units encoding (take (column - 1) source)) }

-- the place of a diagnostic as a range
abbrev pub diagnostic_range : Encoding → DiagnosticValue → Json
diagnostic_range encoding d = range_value (place_of encoding d.line d.column d.source) (place_of encoding d.line d.end d.source)

-- a member of an object: its key and its value
abbrev pub Member : Type 0
Member = Text × Json

-- the member with the tag, if there is one
abbrev pub tag_members : Option ℕ → List Member
tag_members None = []
tag_members (Some tag) = (codes "tags", array_of (number_value tag ∷ [])) ∷ []

-- a diagnostic
unfoldable pub diagnostic_value : Encoding → DiagnosticValue → Json
diagnostic_value encoding d =
    object_of
    ((codes "range", diagnostic_range encoding d) ∷ (codes "severity", number_value (severity_number (severity_of d.remark)))
    ∷ (codes "code", told (code_of d.remark)) ∷ (codes "source", string (codes "devdry")) ∷ (codes "message", told (said_of d)) ∷ tag_members (tag_of d.remark))

-- diagnostics
abbrev pub diagnostic_values : Encoding → List DiagnosticValue → Json
diagnostic_values encoding ds = array_of (map (diagnostic_value encoding) ds)
