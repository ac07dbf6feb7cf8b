-- Serves inner proofs only: what is taken from the front of elements.
use Rattle.std.specs.Prelude.{◌≡◌, ◌<◌, ℕ, List, [], ◌∷◌}
use Rattle.rule_remarks.specs.ByLine.{before}

-- none of the elements is moved, as the first is not reported for a line before this one
pub record LeavesAll {X : Type 0} (line_of : X → ℕ) (found : List X) (line : ℕ) (left : List X) : Type 0 where
  pub none : before line_of found line ≡ []
  pub same : left ≡ found

-- the first of the elements is moved, and the others are left
pub record LeavesRest {X : Type 0} (line_of : X → ℕ) (found : List X) (line : ℕ) (first : X) (left : List X) : Type 0 where
  pub earlier : line_of first < line
  pub whole : found ≡ first ∷ left
