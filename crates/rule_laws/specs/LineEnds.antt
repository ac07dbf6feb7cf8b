-- What udev's ends of lines are, and what is left of a file that was read with them.
use Rattle.std.specs.Prelude.{◌≡◌, ℕ, ◌<◌, ◌≤◌, ◌==◌, Bool, true, not, ◌&&◌, if◌then◌else◌, [], ◌∷◌, ◌++◌, length, take}
use Rattle.std.specs.List.{list_all}
use Rattle.text_bytes.specs.Text.{Text}
use Rattle.text_bytes.specs.Names.{carriage_return, newline, nul}
use Rattle.rule_core.specs.Ends.{as_read, end_size}

-- an end of a line: a newline or a carriage return, perhaps paired with the other, and perhaps with a NUL after that;
-- or one NUL
pub data End : Type 0 where
  newline_first : Bool → Bool → End
  return_first : Bool → Bool → End
  nul_alone : End

-- this byte, or none
abbrev pub byte_if : Bool → ℕ → Text
byte_if there b = if there then b ∷ [] else []

-- how an end of a line is written
abbrev pub spelled : End → Text
spelled (newline_first paired with_nul) = newline ∷ byte_if paired carriage_return ++ byte_if with_nul nul
spelled (return_first paired with_nul) = carriage_return ∷ byte_if paired newline ++ byte_if with_nul nul
spelled nul_alone = nul ∷ []

-- Of the ends of lines with which a text may begin the longest is taken, and none if it begins with none.
pub record TakesLongestEnd (text : Text) : Type 0 where
  pub is_present : 0 < end_size text → (e : End) × (take (end_size text) text ≡ spelled e)
  pub longest : (e : End) (rest : Text) → text ≡ spelled e ++ rest → length (spelled e) ≤ end_size text

-- neither a carriage return nor NUL
abbrev pub is_unmarked : ℕ → Bool
is_unmarked b = not (b == carriage_return) && not (b == nul)

-- A file as it was read has no carriage return and no NUL, and one without them is read as it is; so what was read once stays as it is.
pub record StaysAsRead (text : Text) : Type 0 where
  pub unmarked : list_all is_unmarked (as_read text) ≡ true
  pub same : list_all is_unmarked text ≡ true → as_read text ≡ text
  pub again : as_read (as_read text) ≡ as_read text
