-- The same at each number of a range.
use Rattle.std.proofs.Common.{◌≡◌, ℕ, zero, suc, ◌+◌, ◌<◌, ◌≤◌, List, [], ◌∷◌, ◌++◌, map, flat_map, refl, ◌∙◌, ap, arith}
use Rattle.std.specs.List.{range_with_len}

pub map_range_same : {X : Type 0} (f g : ℕ → X) (a n : ℕ) → ((k : ℕ) → a ≤ k → k < a + n → f k ≡ g k) → map f (range_with_len a n) ≡ map g (range_with_len a n)
map_range_same f g a zero same = refl
map_range_same f g a (suc n) same =
    ap (λ x. x ∷ map f (range_with_len (a + 1) n)) (same a (omega arith) (omega arith))
    ∙ ap (λ l. g a ∷ l) (map_range_same f g (a + 1) n (λ k from below. same k (omega arith) (omega arith)))

pub mapped_range_same : {X Y : Type 0} (g : X → Y) (f : ℕ → X) (h : ℕ → Y) (a n : ℕ) → ((k : ℕ) → a ≤ k → k < a + n → g (f k) ≡ h k) → map g (map f (range_with_len a n)) ≡ map h (range_with_len a n)
mapped_range_same g f h a zero same = refl
mapped_range_same g f h a (suc n) same =
    ap (λ x. x ∷ map g (map f (range_with_len (a + 1) n))) (same a (omega arith) (omega arith))
    ∙ ap (λ l. h a ∷ l) (mapped_range_same g f h (a + 1) n (λ k from below. same k (omega arith) (omega arith)))

pub flat_range_same : {X : Type 0} (f g : ℕ → List X) (a n : ℕ) → ((k : ℕ) → a ≤ k → k < a + n → f k ≡ g k) → flat_map f (range_with_len a n) ≡ flat_map g (range_with_len a n)
flat_range_same f g a zero same = refl
flat_range_same f g a (suc n) same =
    ap (λ x. x ++ flat_map f (range_with_len (a + 1) n)) (same a (omega arith) (omega arith))
    ∙ ap (λ l. g a ++ l) (flat_range_same f g (a + 1) n (λ k from below. same k (omega arith) (omega arith)))
