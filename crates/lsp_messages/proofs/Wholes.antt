-- Numbers that are whole, and those that are too great.
use Rattle.std.proofs.Common.{◌≡◌, ℕ, zero, suc, ◌+◌, ◌-◌, ◌^◌, ◌<◌, ◌≤◌, ◌&&◌, ◌==◌, min, Bool, true, false, List, [], ◌∷◌, ◌++◌, drop, length, Option, Some, None, SomeIff, nat_lt, unwrap_or, refl, ap, sym, ◌∙◌, arith, eqb-true, ltb-false, ltb-true, subst}
use Rattle.std.specs.Str.Parse.{digits_value}
use Rattle.std.proofs.lemmas.List.{drop_min}
use Rattle.std.proofs.lemmas.List.Folds.{list_all-append}
use Rattle.fast_float.specs.Text.{Parts, IsWhole, point_at, whole_of}
use Rattle.text_bytes.specs.Names.{digit_zero}
use Rattle.text_bytes.specs.Numbers.{capped}
use Rattle.lsp_messages.specs.Numbers.{are_zeros, is_whole}

-- zeros alone write zero
zeros_are_zero : (digits : List ℕ) → are_zeros digits ≡ true → digits_value 10 digits ≡ 0
zeros_are_zero [] h = refl
zeros_are_zero (d ∷ ds) h = by (d == digit_zero) refl h (zeros_are_zero ds)
  where
    by : (b : Bool) → (d == digit_zero) ≡ b → (b && are_zeros ds) ≡ true → (are_zeros ds ≡ true → digits_value 10 ds ≡ 0) → digits_value 10 (d ∷ ds) ≡ 0
    by true is all more = subst (λ byte. digits_value 10 (byte ∷ ds) ≡ 0) (sym (eqb-true d digit_zero is)) (more all)
    by false is all more = cc

none_left : (n : ℕ) → are_zeros (drop n []) ≡ true
none_left zero = refl
none_left (suc n) = refl

-- what follows so many digits of two parts
split : (whole fraction : List ℕ) (n : ℕ) → are_zeros (drop n (whole ++ fraction)) ≡ (are_zeros (drop n whole) && are_zeros (drop (n - length whole) fraction))
split [] fraction n =
    let all : n - 0 ≡ n = omega arith in
    rw (none_left n, all) refl
split (d ∷ ds) fraction zero =
    let none : 0 - length (d ∷ ds) ≡ 0 = omega arith in
    rw none (list_all-append (λ digit. digit == digit_zero) (d ∷ ds) fraction)
split (d ∷ ds) fraction (suc n) =
    let less : suc n - length (d ∷ ds) ≡ n - length ds = omega arith in
    rw less (split ds fraction n)

-- a place past all is as good as another one
capped_drop : (n k : ℕ) (digits : List ℕ) → min k (length digits) ≡ min n (length digits) → drop k digits ≡ drop n digits
capped_drop n k digits h = sym (drop_min k digits) ∙ ap (λ m. drop m digits) h ∙ drop_min n digits

-- so it does not matter that the point is counted to some number only
pub whole_by_parts : (number : Parts) (point most : ℕ) → point ≡ min (point_at number) most → length number.whole + length number.fraction ≤ most
    → (are_zeros (drop point number.whole) && are_zeros (drop (point - length number.whole) number.fraction)) ≡ is_whole number
whole_by_parts number point most is fits =
    let first : min point (length number.whole) ≡ min (point_at number) (length number.whole) = omega (arith, is, fits) in
    let second : min (point - length number.whole) (length number.fraction) ≡ min (point_at number - length number.whole) (length number.fraction) = omega (arith, is, fits) in
    rw (
      capped_drop (point_at number) point number.whole first,
      capped_drop (point_at number - length number.whole) (point - length number.whole) number.fraction second,
    )
    (sym (split number.whole number.fraction (point_at number)))

-- a whole number that is told below 2^64
pub number_told : (number : Parts) (told : Option ℕ) → is_whole number ≡ true → SomeIff told (IsWhole number × (whole_of number < 2 ^ 64)) (whole_of number)
    → capped (unwrap_or told (2 ^ 64 - 1)) ≡ capped (whole_of number)
number_told number (Some n) is h = ap capped h.1
number_told number None is h = by (nat_lt (whole_of number) (2 ^ 64)) refl
  where
    by : (b : Bool) → nat_lt (whole_of number) (2 ^ 64) ≡ b → capped (2 ^ 64 - 1) ≡ capped (whole_of number)
    by true small = absurd (h (zeros_are_zero (drop (point_at number) (number.whole ++ number.fraction)) is, ltb-true (whole_of number) (2 ^ 64) small))
    by false great = omega (arith, ltb-false (whole_of number) (2 ^ 64) great)
