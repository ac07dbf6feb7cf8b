-- What the lines of a text are, however they are found.
use Rattle.std.specs.Prelude.{◌≡◌, ◌↔◌, true, not, ◌==◌, List, [], ◌∷◌, ◌++◌, All}
use Rattle.std.specs.List.{flat_map, list_all}
use Rattle.text_bytes.specs.Text.{Text}
use Rattle.text_bytes.specs.Names.{newline}
use Rattle.text_bytes.specs.Lines.{lines}

-- no byte of a text is a newline
abbrev pub HasNoNewline : Text → Type 0
HasNoNewline text = list_all (λ b. not (b == newline)) text ≡ true

-- what follows the last newline as a line, if anything does
abbrev pub last_line : Text → List Text
last_line [] = []
last_line (b ∷ text) = (b ∷ text) ∷ []

-- A text is these lines: those that a newline ends, one after another, and then what is left, which is a line if it
-- is not empty. None of them has a newline.
pub record AreLines (text : Text) (ls : List Text) : Type 0 where
  pub ended : List Text
  pub left : Text
  pub parts : ls ≡ ended ++ last_line left
  pub whole : text ≡ flat_map (λ l. l ++ newline ∷ []) ended ++ left
  pub each : All HasNoNewline ended
  pub rest : HasNoNewline left

-- A text has just these lines.
abbrev pub OneWay : Type 0
OneWay = (text : Text) (ls : List Text) → AreLines text ls ↔ (ls ≡ lines text)
