-- The sum over a front and the element after it is no more than the whole.
use Rattle.std.proofs.Common.{ℕ, zero, suc, ◌+◌, ◌<◌, ◌≤◌, List, [], ◌∷◌, length, take, get_or, arith}
use Rattle.std.specs.List.{sum_by}
use Rattle.std.proofs.lemmas.List.Sums.{sum_by-cons}

pub sum_prefix : {X : Type 0} (f : X → ℕ) (xs : List X) (i : ℕ) (d : X) → i < length xs → sum_by f (take i xs) + f (get_or xs i d) ≤ sum_by f xs
sum_prefix f [] i d h = absurd (omega arith)
sum_prefix f (x ∷ xs) zero d h = omega (arith, sum_by-cons f x xs)
sum_prefix f (x ∷ xs) (suc i) d h = omega (arith, sum_by-cons f x (take i xs), sum_by-cons f x xs, sum_prefix f xs i d (omega arith))
