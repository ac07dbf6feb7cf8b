-- Serves inner proofs only: rising lists that are merged.
use Rattle.std.specs.Prelude.{ℕ, ◌==◌, if◌then◌else◌, List, ◌∷◌, []}

-- the first element, or the end if there is none
abbrev pub first_or : ℕ → List ℕ → ℕ
first_or end [] = end
first_or end (x ∷ xs) = x

-- what is left after n
abbrev pub past : ℕ → List ℕ → List ℕ
past n [] = []
past n (x ∷ xs) = if x == n then xs else x ∷ xs
