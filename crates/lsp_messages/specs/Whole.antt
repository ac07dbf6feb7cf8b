-- The rows of a text with the bytes that end them.
use Rattle.std.specs.Prelude.{◌≡◌, ℕ, ◌++◌, List, [], ◌∷◌, reverse, if◌then◌else◌}
use Rattle.std.specs.List.{concat}
use Rattle.text_bytes.specs.Text.{Text}
use Rattle.lsp_messages.specs.Starts.{ends_row}

-- rows with a byte before the first one
abbrev pub with_byte : ℕ → List Text → List Text
with_byte b [] = (b ∷ []) ∷ []
with_byte b (row ∷ rows) = (b ∷ row) ∷ rows

-- the rows of a text, each with the bytes that end it
abbrev pub whole_rows : Text → List Text
whole_rows [] = []
whole_rows (b ∷ text) = if ends_row b text then (b ∷ []) ∷ whole_rows text else with_byte b (whole_rows text)

-- all rows, where those from a place on are kept from the last one to the first
abbrev pub in_order : List Text → List Text → List Text
in_order before after = before ++ reverse after

-- Each of these rows is one of the text that they make together, with the bytes that end it.
abbrev pub AreWhole : List Text → Type 0
AreWhole rows = whole_rows (concat rows) ≡ rows
