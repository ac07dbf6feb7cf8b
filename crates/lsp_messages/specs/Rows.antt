-- The rows of a text, and the places in them.
use Rattle.std.specs.Prelude.{ℕ, ◌+◌, ◌-◌, ◌==◌, Bool, not, ◌||◌, nat_le, List, ◌∷◌}
use Rattle.std.specs.Prelude.{length, take, drop, take_while, count_by, map, slice_index_or}
use Rattle.text_bytes.specs.Names.{carriage_return, newline}
use Rattle.text_bytes.specs.Numbers.{capped}
use Rattle.text_bytes.specs.Text.{Text}
use Rattle.lsp_messages.specs.Starts.{starts}
use Rattle.lsp_messages.specs.Units.{fitting, units}
use Rattle.lsp_messages.specs.declared.counting.Encoding.{Encoding}
use Rattle.lsp_messages.specs.declared.rows.Position.{Position}

-- where a row begins, counted from 0; past the last row the end of the text
abbrev pub start_of : Text → ℕ → ℕ
start_of text line = slice_index_or (0 ∷ starts text) line (length text)

-- a byte of a row, and none of its end
abbrev pub is_inside : ℕ → Bool
is_inside b = not (b == newline || b == carriage_return)

-- the row that begins at a place, without its end
abbrev pub row_at : Text → ℕ → Text
row_at text start = take_while is_inside (drop start text)

-- all rows, each without its end
abbrev pub rows_of : Text → List Text
rows_of text = map (row_at text) (0 ∷ starts text)

-- in which row a place is: so many rows begin at it or before it, after the first one
abbrev pub line_of : Text → ℕ → ℕ
line_of text offset = count_by (λ start. nat_le start offset) (starts text)

-- Where a place is: its row, and the units of what precedes it there. In the end of a row it is where that end begins.
abbrev pub position_of : Encoding → Text → ℕ → Position
position_of encoding text offset =
    let line = line_of text offset in
    let start = start_of text line in
    record { line = capped line; character = capped (units encoding (take (offset - start) (row_at text start))) }

-- The place that a position names: after the characters of the row that fit into so many units. Past the end of a row it
-- is where that end begins, and past the last row the end of the text.
abbrev pub offset_of : Encoding → Text → Position → ℕ
offset_of encoding text position =
    let start = start_of text position.line in
    start + fitting encoding position.character (row_at text start)
