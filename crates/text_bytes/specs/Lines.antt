-- The lines of a text.
use Rattle.std.specs.Prelude.{ℕ, ◌+◌, ◌==◌, if◌then◌else◌, List, [], ◌∷◌}
use Rattle.std.specs.List.{onto_first}
use Rattle.text_bytes.specs.Text.{Text}
use Rattle.text_bytes.specs.Names.{newline}

-- the texts that newlines end, and what follows the last newline, if anything does
abbrev pub lines : Text → List Text
lines [] = []
lines (b ∷ text) = if b == newline then [] ∷ lines text else onto_first b (lines text)

-- a line: its number in its text, and its bytes
pub record NumberedLine : Type 0 where
  pub number : ℕ
  pub text : Text

-- texts as lines, of which the first has this number
abbrev pub numbered_from : ℕ → List Text → List NumberedLine
numbered_from n [] = []
numbered_from n (t ∷ ts) = record { number = n; text = t } ∷ numbered_from (n + 1) ts

-- the lines of a text, counted from 1
abbrev pub numbered_lines : Text → List NumberedLine
numbered_lines text = numbered_from 1 (lines text)
