-- The blocks of an input, and runs that are too long.
use Rattle.std.specs.Prelude.{◌≡◌, ℕ, ◌+◌, ◌==◌, Bool, true, false, List, [], ◌∷◌, ◌++◌, length, take, count_by, nat_lt, if◌then◌else◌, All}
use Rattle.text_bytes.specs.Text.{Text}
use Rattle.text_bytes.specs.Names.{newline}
use Rattle.device_core.specs.Runs.{runs}

-- these runs up to and including the first that is faulty
abbrev pub up_to_faulty : (Text → Bool) → List Text → List Text
up_to_faulty is_faulty [] = []
up_to_faulty is_faulty (run ∷ runs) = run ∷ (if is_faulty run then [] else up_to_faulty is_faulty runs)

-- the blocks of an input: its runs up to and including the first that is faulty
abbrev pub blocks_of : (Text → Bool) → Text → List Text
blocks_of is_faulty input = up_to_faulty is_faulty (runs input)

-- No text is faulty, and all are found.
pub record FindsAll (is_faulty : Text → Bool) (texts found : List Text) : Type 0 where
  pub none : All (λ text. is_faulty text ≡ false) texts
  pub all : found ≡ texts

-- A faulty text follows others that are not, and no more are found.
pub record FindsFaulty (is_faulty : Text → Bool) (texts found : List Text) : Type 0 where
  pub before : List Text
  pub faulty : Text
  pub following : List Text
  pub texts_are : texts ≡ before ++ faulty ∷ following
  pub none : All (λ text. is_faulty text ≡ false) before
  pub is : is_faulty faulty ≡ true
  pub found_are : found ≡ before ++ faulty ∷ []

-- the most bytes that a block may have, newlines included
abbrev pub most_bytes : ℕ
most_bytes = 65536

-- whether a run has more
abbrev pub is_too_long : Text → Bool
is_too_long run = nat_lt most_bytes (length run)

-- how many lines end in a text
abbrev pub newline_count : Text → ℕ
newline_count text = count_by (λ byte. byte == newline) text

-- the line that has the first excess byte of a run, counted from 1
unfoldable pub line_of_excess : Text → ℕ
line_of_excess run = newline_count (take most_bytes run) + 1
