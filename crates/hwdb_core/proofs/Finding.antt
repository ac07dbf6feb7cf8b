-- Cutting a text at a byte.
use Rattle.std.proofs.Common.{◌≡◌, ℕ, ◌<◌, ◌≤◌, Bool, true, false, cond, not, List, length, take, Some, None, ltb, refl, sym, ap, arith}
use Rattle.std.specs.List.{position, position_or_len, take_while}
use Rattle.std.proofs.lemmas.Bool.{ltb-true, ltb-false}
use Rattle.std.proofs.lemmas.List.{take_all}

pub position_some : {X : Type 0} (p : X → Bool) (xs : List X) (k : ℕ) → position p xs ≡ Some k → (position_or_len p xs ≡ k) × (k < length xs)
position_some {X} p xs k h = by_test (ltb (position_or_len p xs) (length xs)) refl h where
  by_test : (v : Bool) → ltb (position_or_len p xs) (length xs) ≡ v → cond v (Some (position_or_len p xs)) None ≡ Some k → (position_or_len p xs ≡ k) × (k < length xs)
  by_test true e q =
      let at : position_or_len p xs ≡ k = cc in
      let lt : position_or_len p xs < length xs = ltb-true (position_or_len p xs) (length xs) e in
      (at, omega arith)
  by_test false e q = cc

pub position_none : {X : Type 0} (p : X → Bool) (xs : List X) → position p xs ≡ None → length xs ≤ position_or_len p xs
position_none {X} p xs h = by_test (ltb (position_or_len p xs) (length xs)) refl h where
  by_test : (v : Bool) → ltb (position_or_len p xs) (length xs) ≡ v → cond v (Some (position_or_len p xs)) None ≡ None → length xs ≤ position_or_len p xs
  by_test true e q = cc
  by_test false e q = ltb-false (position_or_len p xs) (length xs) e

-- a text up to a byte is all of it if the byte is not there
pub before_none : (p : ℕ → Bool) (t : List ℕ) → position p t ≡ None → t ≡ take_while (λ b. not (p b)) t
before_none p t e = sym (take_all (position_or_len p t) t (position_none p t e))

pub before_some : (p : ℕ → Bool) (t : List ℕ) (k : ℕ) → position p t ≡ Some k → take k t ≡ take_while (λ b. not (p b)) t
before_some p t k e = ap (λ (n : ℕ). take n t) (sym (position_some p t k e).0)
