-- Where the mark of a place is, as a reader sees it.
use Rattle.std.specs.Prelude.{◌≡◌, ℕ, suc, ◌-◌, ◌<◌, Bool, true, false, not, ◌==◌, if◌then◌else◌}
use Rattle.std.specs.Prelude.{[], ◌∷◌, ◌++◌, drop, map, slice_index_or, take}
use Rattle.text_bytes.specs.Text.{Text}
use Rattle.text_bytes.specs.Lines.{lines}
use Rattle.text_bytes.specs.Names.{caret}
use Rattle.text_bytes.specs.Texts.{up_to}
use Rattle.engine_formats.specs.Human.{continues, shown_byte}
use Rattle.engine_formats.specs.Paints.{escape_code}

-- the letter that ends the start or the end of a color
abbrev pub letter_m : ℕ
letter_m = 109

-- How many columns of a terminal a text takes, the first bytes of which may still belong to the start or the end of a
-- color. Such a sequence goes from an escape byte up to a letter `m` and takes none, and neither does a byte that
-- continues a character.
abbrev pub columns_from : Bool → Text → ℕ
columns_from true [] = 0
columns_from false [] = 0
columns_from true (b ∷ text) = columns_from (not (b == letter_m)) text
columns_from false (b ∷ text) =
    if b == escape_code then columns_from true text
    else if continues b then columns_from false text
    else suc (columns_from false text)

-- how many columns of a terminal a text takes
abbrev pub columns : Text → ℕ
columns text = columns_from false text

-- the line of a text that follows this many others, without its newline
abbrev pub line_after : ℕ → Text → Text
line_after others text = slice_index_or (lines text) others []

-- `^` is below the first byte of the place at a column: the line that is shown goes on from the place as its source
-- does, for at least one byte if there is one, and as many columns come before the mark as before the place
pub record PointsAt (source : Text) (column : ℕ) (shown marks : Text) : Type 0 where
  pub before : Text
  pub room : ℕ
  pub some : 0 < room
  pub place : shown ≡ before ++ map shown_byte (take room (drop (column - 1) source))
  pub below : columns (up_to caret marks) ≡ columns before
