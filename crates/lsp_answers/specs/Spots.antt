-- A place in a row of a document.
use Rattle.std.specs.Prelude.{ℕ, take}
use Rattle.text_bytes.specs.Numbers.{capped}
use Rattle.text_bytes.specs.Text.{Text}
use Rattle.json.specs.Json.{Json}
use Rattle.lsp_messages.specs.Positions.{range_value}
use Rattle.lsp_messages.specs.Rows.{row_at, start_of}
use Rattle.lsp_messages.specs.Units.{fitting, units}
use Rattle.lsp_messages.specs.declared.counting.Encoding.{Encoding}
use Rattle.lsp_messages.specs.declared.rows.Position.{Position}

-- the number of a row, its bytes without its end, and a place among them
pub record Spot : Type 0 where
  pub line : ℕ
  pub row : Text
  pub at : ℕ

-- the row and the place that a position names
abbrev pub spot_at : Encoding → Text → Position → Spot
spot_at encoding text position =
    let row = row_at text (start_of text position.line) in
    record { line = position.line; row = row; at = fitting encoding position.character row }

-- the position of a place in a row with a number
abbrev pub position_in : Encoding → (line : ℕ) → (row : Text) → ℕ → Position
position_in encoding line row at = record { line = line; character = capped (units encoding (take at row)) }

-- the range from a place in a row up to another one
abbrev pub row_range : Encoding → (line : ℕ) → (row : Text) → (start end : ℕ) → Json
row_range encoding line row start end = range_value (position_in encoding line row start) (position_in encoding line row end)
