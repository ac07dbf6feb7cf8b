-- A text cut into its complete runs and its rest, in terms of its bytes alone.
use Rattle.std.specs.Prelude.{◌≡◌, ◌≢◌, ℕ, List, [], ◌∷◌, ◌++◌, replicate}
use Rattle.text_bytes.specs.Text.{Text}
use Rattle.text_bytes.specs.Names.{newline}

-- No line is empty: the text begins with no newline, and no two are in a row.
pub record HasNoEmptyLine (text : Text) : Type 0 where
  pub begins : (following : Text) → text ≢ newline ∷ following
  pub in_a_row : (before following : Text) → text ≢ before ++ newline ∷ newline ∷ following

-- A complete run ends in a newline, that of its last line. The newline of the empty line after it does not belong to
-- it.
pub record IsCompleteRun (run : Text) : Type 0 where
  pub no_empty_line : HasNoEmptyLine run
  pub before : Text
  pub ends : run ≡ before ++ newline ∷ []

-- so many newlines, then a text
abbrev pub newlines_then : ℕ → Text → Text
newlines_then count text = replicate count newline ++ text

-- The text is newlines, then each of the runs, followed by the newline of an empty line and by further
-- newlines, then the rest.
abbrev pub IsCutInto : Text → List Text → Text → Type 0
IsCutInto text [] rest = (count : ℕ) × (text ≡ newlines_then count rest) × HasNoEmptyLine rest
IsCutInto text (run ∷ runs) rest =
    (count : ℕ) × (later : Text) × (text ≡ newlines_then count (run ++ newline ∷ later)) × IsCompleteRun run × IsCutInto later runs rest
