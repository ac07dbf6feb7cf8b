-- Words with what is told about them, and the word at the front of a text.
use Rattle.std.specs.Prelude.{ℕ, Bool, ◌||◌, ◌&&◌, ◌==◌, nat_eq, if◌then◌else◌, List, [], ◌∷◌, length, map, Option, Some, None}
use Rattle.std.specs.Borrow.{Bor}
use Rattle.std.specs.List.{flat_map, starts_with}
use Rattle.text_bytes.specs.Names.{colon, dollar, equals, percent, underscore}
use Rattle.text_bytes.specs.Texts.{begins_with, ends_in}
use Rattle.text_bytes.specs.Text.{Text}

-- a word and what is told about it
pub record Row : Type 0 where
  pub name : Text
  pub text : Text

-- an entry of a table, as its texts
abbrev pub row_of : Bor Text × Bor Text → Row
row_of entry = record { name = entry.0.now; text = entry.1.now }

-- the entries of tables, one after another
abbrev pub rows_in : List (Bor (List (Bor Text × Bor Text))) → List Row
rows_in tables = flat_map (λ table. map row_of table.now) tables

-- whether a name is the beginning of words: it ends in `=`, `_` or `:`, or is a substitution, whose name ends where
-- its letters do
abbrev pub is_open : Text → Bool
is_open name = ends_in equals name || (ends_in underscore name || (ends_in colon name || (begins_with dollar name || begins_with percent name)))

-- whether a row's name stands at the front of a text, as the whole word of this length there or as its beginning
unfoldable pub fits : ℕ → Text → Row → Bool
fits size text row = starts_with nat_eq text row.name && (is_open row.name || length row.name == size)

-- the first row that fits at the front of a text
abbrev pub entry_at : List Row → ℕ → Text → Option Row
entry_at [] size text = None
entry_at (row ∷ rows) size text = if fits size text row then Some row else entry_at rows size text
