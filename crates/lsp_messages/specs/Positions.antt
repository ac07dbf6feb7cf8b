-- Positions and ranges as values of JSON.
use Rattle.std.specs.Prelude.{ℕ, [], ◌∷◌, Option, codes, option_and_then, option_map}
use Rattle.text_bytes.specs.Text.{Text}
use Rattle.text_bytes.specs.Numbers.{capped}
use Rattle.json.specs.Json.{Json}
use Rattle.json.specs.Find.{as_number, get}
use Rattle.text_json.specs.Values.{number_value, object_of}
use Rattle.lsp_messages.specs.Numbers.{whole_number}
use Rattle.lsp_messages.specs.declared.rows.Position.{Position}

-- the whole number that a member is, if it is one: at most 2^32 - 1, which is past the end of each row and of each text
abbrev pub number_at : Text → Json → Option ℕ
number_at name value = option_map capped (option_and_then whole_number (option_and_then as_number (get name value)))

-- the position of a line and a character in it
abbrev pub place : ℕ → ℕ → Position
place line character = record { line = line; character = character }

-- the position that a value is: its line and its character
unfoldable pub position_of : Json → Option Position
position_of value = option_and_then (λ line. option_map (place line) (number_at (codes "character") value)) (number_at (codes "line") value)

-- the position that a member is
abbrev pub position_at : Text → Json → Option Position
position_at name value = option_and_then position_of (get name value)

-- the range that a value is: where it starts and where it ends
unfoldable pub range_of : Json → Option (Position × Position)
range_of value = option_and_then (λ start. option_map (λ end. (start, end)) (position_at (codes "end") value)) (position_at (codes "start") value)

-- a position as a value
unfoldable pub position_value : Position → Json
position_value position = object_of ((codes "line", number_value position.line) ∷ (codes "character", number_value position.character) ∷ [])

-- a range as a value
unfoldable pub range_value : Position → Position → Json
range_value start end = object_of ((codes "start", position_value start) ∷ (codes "end", position_value end) ∷ [])
