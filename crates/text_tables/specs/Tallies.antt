-- Serves inner proofs only: how many of each line are left while lines are removed.
use Rattle.std.specs.Prelude.{◌≡◌, ℕ, List}
use Rattle.std.specs.Option.{unwrap_or}
use Rattle.text_bytes.specs.Text.{Text}
use Rattle.text_tables.specs.Pairs.{value_of}
use Rattle.text_tables.specs.Surplus.{times}

-- how many of a line are left: none if nothing is recorded
abbrev pub left_of : List (Text × ℕ) → Text → ℕ
left_of tally line = unwrap_or (value_of tally line) 0

-- as many of each line are left as there are in a list
abbrev pub Tallies : List (Text × ℕ) → List Text → Type 0
Tallies tally lines = (line : Text) → left_of tally line ≡ times line lines
