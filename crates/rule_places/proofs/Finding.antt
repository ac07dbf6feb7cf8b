-- How many lines begin at a place or before it.
use Rattle.std.proofs.Common.{◌≡◌, ℕ, ◌≤◌, Bool, true, false, List, [], ◌∷◌, length, arith}
use Rattle.std.specs.List.{prefix_len}
use Rattle.std.specs.List.Sorted.{IsPartitionPoint}
use Rattle.std.proofs.lemmas.List.Sums.{prefix_len_is}
use Rattle.rule_places.specs.declared.kept.KeptLine.{KeptLine}

-- as many pass a test as come before the place where it first fails
pub point_is : (p : KeptLine → Bool) (lines : List KeptLine) (n : ℕ) → n ≤ length lines → IsPartitionPoint (λ l. p l ≡ true) (λ l. p l ≡ false) lines n → prefix_len p lines ≡ n
point_is p [] n within point = omega (arith, within)
point_is p (l ∷ lines) n within point =
    prefix_len_is p (l ∷ lines) n l within (λ k h. point.0 k l (omega arith) h) (λ h. point.1 n l (omega arith) h)
