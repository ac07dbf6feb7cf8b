-- The first line of a text ends at its first newline.
use Rattle.std.proofs.Common.{◌≡◌, ℕ, suc, ◌+◌, ◌-◌, ◌<◌, ◌≤◌, Bool, true, false, cond, not, ◌==◌, List, ◌∷◌, [], length, take, drop, Some, None, ltb, refl, sym, ◌∙◌, ap, arith}
use Rattle.std.specs.List.{onto_first, position, position_or_len}
use Rattle.std.proofs.lemmas.Bool.{ltb-true, ltb-false}
use Rattle.std.proofs.lemmas.List.{take_all, length-drop}
use Rattle.text_bytes.specs.Names.{newline}
use Rattle.text_bytes.specs.Lines.{lines}

pub position_some : {X : Type 0} (p : X → Bool) (xs : List X) (k : ℕ) → position p xs ≡ Some k → (position_or_len p xs ≡ k) × (k < length xs)
position_some {X} p xs k h = by_test (ltb (position_or_len p xs) (length xs)) refl h where
  by_test : (v : Bool) → ltb (position_or_len p xs) (length xs) ≡ v → cond v (Some (position_or_len p xs)) None ≡ Some k → (position_or_len p xs ≡ k) × (k < length xs)
  by_test true e q =
      let at : position_or_len p xs ≡ k = cc in
      let lt : position_or_len p xs < length xs = ltb-true (position_or_len p xs) (length xs) e in
      (at, omega arith)
  by_test false e q = cc

pub position_none : {X : Type 0} (p : X → Bool) (xs : List X) → position p xs ≡ None → length xs ≤ position_or_len p xs
position_none {X} p xs h = by_test (ltb (position_or_len p xs) (length xs)) refl h where
  by_test : (v : Bool) → ltb (position_or_len p xs) (length xs) ≡ v → cond v (Some (position_or_len p xs)) None ≡ None → length xs ≤ position_or_len p xs
  by_test true e q = cc
  by_test false e q = ltb-false (position_or_len p xs) (length xs) e

-- what is left of a list after a place
pub tail : {X : Type 0} (n : ℕ) (xs : List X) → take (length xs - n) (drop n xs) ≡ drop n xs
tail n xs = take_all (length xs - n) (drop n xs) (omega (arith, length-drop n xs))

abbrev pub ends_line : ℕ → Bool
ends_line b = b == newline

whole : (t : List ℕ) → 0 < length t → length t ≤ position_or_len ends_line t → lines t ≡ t ∷ []
whole [] h g = absurd (omega arith)
whole (b ∷ []) h g =
    elim (b == newline) as (λ v. 1 ≤ cond (not v) (1 + 0) 0 → cond v ([] ∷ []) ((b ∷ []) ∷ []) ≡ (b ∷ []) ∷ []) [
      | true ↦ λ k. absurd (omega arith)
      | false ↦ λ k. refl
    ] g
whole (b ∷ c ∷ t) h g =
    elim (b == newline) as (λ v. suc (suc (length t)) ≤ cond (not v) (1 + position_or_len ends_line (c ∷ t)) 0 → cond v ([] ∷ lines (c ∷ t)) (onto_first b (lines (c ∷ t))) ≡ (b ∷ c ∷ t) ∷ []) [
      | true ↦ λ k. absurd (omega arith)
      | false ↦ λ k. ap (onto_first b) (whole (c ∷ t) (omega arith) (omega arith))
    ] g

first : (t : List ℕ) → position_or_len ends_line t < length t → lines t ≡ take (position_or_len ends_line t) t ∷ lines (drop (position_or_len ends_line t + 1) t)
first [] h = absurd (omega arith)
first (b ∷ t) h =
    let n : ℕ = position_or_len ends_line t in
    elim (b == newline) as (λ v. cond (not v) (1 + position_or_len ends_line t) 0 < suc (length t) → cond v ([] ∷ lines t) (onto_first b (lines t)) ≡ take (cond (not v) (1 + position_or_len ends_line t) 0) (b ∷ t) ∷ lines (drop (cond (not v) (1 + position_or_len ends_line t) 0 + 1) (b ∷ t))) [
      | true ↦ λ k. refl
      | false ↦ λ k.
          let one : 1 + position_or_len ends_line t ≡ suc (position_or_len ends_line t) = omega arith in
          let two : 1 + position_or_len ends_line t + 1 ≡ suc (position_or_len ends_line t + 1) = omega arith in
          ap (onto_first b) (first t (omega arith))
          ∙ ap (λ (m : ℕ). take m (b ∷ t) ∷ lines (drop (position_or_len ends_line t + 1) t)) (sym one)
          ∙ ap (λ (m : ℕ). take (1 + position_or_len ends_line t) (b ∷ t) ∷ lines (drop m (b ∷ t))) (sym two)
    ] h

-- without a newline a text is one line
pub lines_none : (t : List ℕ) → 0 < length t → position ends_line t ≡ None → lines t ≡ t ∷ []
lines_none t h e = whole t h (position_none ends_line t e)

-- the first line ends at the first newline
pub lines_some : (t : List ℕ) (k : ℕ) → position ends_line t ≡ Some k → lines t ≡ take k t ∷ lines (take (length t - (k + 1)) (drop (k + 1) t))
lines_some t k e =
    let at = position_some ends_line t k e in
    let is : position_or_len ends_line t ≡ k = at.0 in
    first t (omega arith) ∙ ap (λ (m : ℕ). take m t ∷ lines (drop (m + 1) t)) is ∙ ap (λ (u : List ℕ). take k t ∷ lines u) (sym (tail (k + 1) t))
