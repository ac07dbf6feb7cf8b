-- The part of a masked line that is shown.
use Rattle.std.proofs.Common.{◌≡◌, ℕ, ◌+◌, ◌-◌, ◌<◌, ◌≤◌, Bool, true, false, cond, eqb, ltb, min, List, drop, take, refl, ap, ap₂, sym, ◌∙◌, arith}
use Rattle.std.specs.List.{prefix_len}
use Rattle.std.proofs.lemmas.Bool.{ltb-false, ltb-true}
use Rattle.std.proofs.lemmas.List.{drop-drop, drop-take}
use Rattle.engine_formats.specs.Human.{continues, first_start, window, window_start}
use Rattle.engine_formats.specs.Masked.{masked}
use Rattle.engine_formats.proofs.Masking.{masked_drop, masked_length, masked_take, masked_third, same_prefix}

-- the part begins where that of the line as it is does
pub same_start : (source : List ℕ) (column : ℕ) → window_start (masked source) column ≡ window_start source column
unfolding window_start
same_start source column =
    let first : first_start (masked source) column ≡ first_start source column = ap (λ (n : ℕ). min (column - 1 - 40) (n - 160)) (masked_length 0 0 source) in
    let start : ℕ = first_start source column in
    let rest = masked_drop start 0 0 source in
    let count : prefix_len continues (take 3 (drop start (masked source))) ≡ prefix_len continues (take 3 (drop start source)) =
    ap (λ (t : List ℕ). prefix_len continues (take 3 t)) rest.2 ∙ same_prefix 3 rest.0 rest.1 (drop start source) in
    ap (λ (n : ℕ). cond (eqb n 0) 0 (n + prefix_len continues (take 3 (drop n (masked source))))) first
    ∙ ap (λ (n : ℕ). cond (eqb start 0) 0 (start + n)) count

-- the bytes from a place on are masked by at most the two before it
from_two : (before : ℕ) (source : List ℕ) → drop 2 (masked (drop before source)) ≡ drop (before + 2) (masked source)
from_two before source =
    let rest = masked_drop before 0 0 source in
    masked_third 0 0 rest.0 rest.1 (drop before source) ∙ ap (drop 2) (sym rest.2) ∙ drop-drop 2 before (masked source)

reached : (source : List ℕ) (start reach : ℕ) → reach ≡ min start 2 → drop reach (masked (drop (start - reach) source)) ≡ drop start (masked source)
reached source start reach e = by_test (ltb start 2) refl where
  by_test : (v : Bool) → ltb start 2 ≡ v → drop reach (masked (drop (start - reach) source)) ≡ drop start (masked source)
  by_test true h =
      let small : start < 2 = ltb-true start 2 h in
      let all : reach ≡ start = omega (arith, e, small) in
      let none : start - reach ≡ 0 = omega (arith, e, small) in
      ap₂ (λ (r k : ℕ). drop r (masked (drop k source))) all none
  by_test false h =
      let more : 2 ≤ start = ltb-false start 2 h in
      let two : reach ≡ 2 = omega (arith, e, more) in
      let rest : start - reach + 2 ≡ start = omega (arith, e, more) in
      ap (λ (r : ℕ). drop r (masked (drop (start - reach) source))) two ∙ from_two (start - reach) source ∙ ap (λ (n : ℕ). drop n (masked source)) rest

-- the part is masked with the bytes before it
pub masked_part : (source : List ℕ) (start reach : ℕ) → reach ≡ min start 2
    → drop reach (masked (take (reach + 160) (drop (start - reach) source))) ≡ window (masked source) start
masked_part source start reach e =
    ap (drop reach) (masked_take (reach + 160) 0 0 (drop (start - reach) source))
    ∙ drop-take reach 160 (masked (drop (start - reach) source))
    ∙ ap (take 160) (reached source start reach e)
