-- The first line of a text ends with its first newline.
use Rattle.std.proofs.Common.{◌≡◌, ℕ, suc, ◌+◌, ◌-◌, ◌<◌, ◌≤◌, true, false, cond, not, ◌==◌, List, ◌∷◌, [], length, take, drop, Some, None, refl, sym, ◌∙◌, ap, arith}
use Rattle.std.specs.List.{onto_first, position, position_or_len}
use Rattle.text_bytes.proofs.Places.{ends_line, position_none, position_some, tail}
use Rattle.rule_places.specs.WholeLines.{whole_lines}

whole : (t : List ℕ) → 0 < length t → length t ≤ position_or_len ends_line t → whole_lines t ≡ t ∷ []
whole [] h g = absurd (omega arith)
whole (b ∷ []) h g =
    elim (b == 10) as (λ v. 1 ≤ cond (not v) (1 + 0) 0 → cond v ((b ∷ []) ∷ []) ((b ∷ []) ∷ []) ≡ (b ∷ []) ∷ []) [
      | true ↦ λ k. absurd (omega arith)
      | false ↦ λ k. refl
    ] g
whole (b ∷ c ∷ t) h g =
    elim (b == 10) as (λ v. suc (suc (length t)) ≤ cond (not v) (1 + position_or_len ends_line (c ∷ t)) 0 → cond v ((b ∷ []) ∷ whole_lines (c ∷ t)) (onto_first b (whole_lines (c ∷ t))) ≡ (b ∷ c ∷ t) ∷ []) [
      | true ↦ λ k. absurd (omega arith)
      | false ↦ λ k. ap (onto_first b) (whole (c ∷ t) (omega arith) (omega arith))
    ] g

first : (t : List ℕ) → position_or_len ends_line t < length t → whole_lines t ≡ take (position_or_len ends_line t + 1) t ∷ whole_lines (drop (position_or_len ends_line t + 1) t)
first [] h = absurd (omega arith)
first (b ∷ t) h =
    let n : ℕ = position_or_len ends_line t in
    elim (b == 10) as (λ v. cond (not v) (1 + position_or_len ends_line t) 0 < suc (length t) → cond v ((b ∷ []) ∷ whole_lines t) (onto_first b (whole_lines t)) ≡ take (cond (not v) (1 + position_or_len ends_line t) 0 + 1) (b ∷ t) ∷ whole_lines (drop (cond (not v) (1 + position_or_len ends_line t) 0 + 1) (b ∷ t))) [
      | true ↦ λ k. refl
      | false ↦ λ k.
          let two : 1 + position_or_len ends_line t + 1 ≡ suc (position_or_len ends_line t + 1) = omega arith in
          ap (onto_first b) (first t (omega arith))
          ∙ ap (λ (m : ℕ). take m (b ∷ t) ∷ whole_lines (drop m (b ∷ t))) (sym two)
    ] h

-- without a newline a text is one line
pub whole_none : (t : List ℕ) → 0 < length t → position ends_line t ≡ None → whole_lines t ≡ t ∷ []
whole_none t h e = whole t h (position_none ends_line t e)

-- the first line ends with the first newline
pub whole_some : (t : List ℕ) (k : ℕ) → position ends_line t ≡ Some k → whole_lines t ≡ take (k + 1) t ∷ whole_lines (take (length t - (k + 1)) (drop (k + 1) t))
whole_some t k e =
    let at = position_some ends_line t k e in
    let is : position_or_len ends_line t ≡ k = at.0 in
    first t (omega arith) ∙ ap (λ (m : ℕ). take (m + 1) t ∷ whole_lines (drop (m + 1) t)) is ∙ ap (λ (u : List ℕ). take (k + 1) t ∷ whole_lines u) (sym (tail (k + 1) t))
