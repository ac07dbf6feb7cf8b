-- A byte is found in a text if and only if the text has one.
use Rattle.std.proofs.Common.{◌≡◌, ℕ, suc, ◌+◌, Bool, true, false, not, List, [], ◌∷◌, length, Some, None, cond, refl, ◌∙◌, arith}
use Rattle.std.specs.Prelude.{nat_lt, ◌||◌}
use Rattle.std.specs.List.{list_any, position, prefix_len}
use Rattle.std.specs.Option.{is_some}
use Rattle.std.proofs.lemmas.Bool.{lt-ltb, le-ltb, ltb-true, ltb-false}

some_if : (b : Bool) (k : ℕ) → is_some (cond b (Some k) None) ≡ b
some_if true k = refl
some_if false k = refl

one_later : (n m : ℕ) → nat_lt (1 + n) (suc m) ≡ nat_lt n m
one_later n m = by_test (nat_lt n m) refl
  where
    by_test : (b : Bool) → nat_lt n m ≡ b → nat_lt (1 + n) (suc m) ≡ b
    by_test true e = let h = ltb-true n m e in lt-ltb (1 + n) (suc m) (omega arith)
    by_test false e = let h = ltb-false n m e in le-ltb (1 + n) (suc m) (omega arith)

found_at : (p : ℕ → Bool) (t : List ℕ) → nat_lt (prefix_len (λ x. not (p x)) t) (length t) ≡ list_any p t
found_at p [] = refl
found_at p (x ∷ t) = by_test (p x) (found_at p t)
  where
    by_test : (b : Bool) → nat_lt (prefix_len (λ x. not (p x)) t) (length t) ≡ list_any p t → nat_lt (cond (not b) (1 + prefix_len (λ x. not (p x)) t) 0) (suc (length t)) ≡ (b || list_any p t)
    by_test true h = lt-ltb 0 (suc (length t)) (omega arith)
    by_test false h = one_later (prefix_len (λ x. not (p x)) t) (length t) ∙ h

pub found_any : (p : ℕ → Bool) (t : List ℕ) → is_some (position p t) ≡ list_any p t
found_any p t = some_if (nat_lt (prefix_len (λ x. not (p x)) t) (length t)) (prefix_len (λ x. not (p x)) t) ∙ found_at p t
