-- Numbers that are read digit by digit, up to the digit at which they reach the bound.
use Rattle.std.proofs.Common.{◌≡◌, ◌↔◌, ℕ, pos, negsuc, ◌+◌, ◌*◌, ◌^◌, ◌<◌, ◌≤◌, Bool, true, false, not, cond, ◌==◌, List, [], ◌∷◌, length, drop, get_or, zero, suc, Option, Some, None, option_map, refl, ap, sym, ◌∙◌, arith, add-one, mul-suc}
use Rattle.std.proofs.Math.Seq.{drop-cons}
use Rattle.std.proofs.lemmas.Bool.{and_right, le-ltb, ne_eqb}
use Rattle.std.specs.Char.{digit_value}
use Rattle.std.specs.Str.Parse.{digits_value, digits_value_after}
use Rattle.rule_tokens.specs.Integers.{are_digits, integer_of, natural_of, not_below_zero, signed_size, size_in, with_sign}

-- a number with the digits from a place on is that with the digit there, and then those after it
pub number_on : (base : ℕ) (text : List ℕ) (i n : ℕ) → i < length text
    → digits_value_after base n (drop i text) ≡ digits_value_after base (n * base + digit_value (get_or text i 0)) (drop (i + 1) text)
number_on base text i n here = rw (drop-cons text i 0, add-one i) refl

times : (n base : ℕ) → 1 ≤ base → n ≤ n * base
times n zero h = absurd (omega arith)
times n (suc base) h = omega (arith, mul-suc n base)

-- further digits make no number less
grows : (base n : ℕ) (text : List ℕ) → 1 ≤ base → n ≤ digits_value_after base n text
grows base n [] h = omega arith
grows base n (b ∷ text) h =
    let more = grows base (n * base + digit_value b) text h in
    let large : n ≤ n * base = times n base h in omega arith

-- a number that reaches the bound at some digit is not below it
pub refused_great : (base : ℕ) (text : List ℕ) (i n : ℕ) → 1 ≤ base → digits_value_after base n (drop i text) ≡ digits_value base text → 2 ^ 32 ≤ n → None ≡ size_in base text
unfolding size_in
refused_great base text i n least number high =
    let more = grows base n (drop i text) least in
    let great : 2 ^ 32 ≤ digits_value base text = omega (arith, more, number) in
    rw (and_right (are_digits base text) _ (le-ltb (digits_value base text) (2 ^ 32) great)) refl

no_some : (n : ℕ) → None ≡ Some n → ⊥
no_some n e = cc

apart : (m n : ℕ) → Some (negsuc m) ≡ Some (pos n) → ⊥
apart m n e = cc

-- a natural number is an integer that is not below zero
pub natural_is : (t : List ℕ) (n : ℕ) → (natural_of t ≡ Some n) ↔ (integer_of t ≡ Some (pos n))
unfolding natural_of integer_of
natural_is t n = by_size (signed_size t) where
  by_size : (o : Option (Bool × ℕ)) → (not_below_zero o ≡ Some n) ↔ (option_map with_sign o ≡ Some (pos n))
  by_size None = ((λ e. cc), λ e. cc)
  by_size (Some (true, zero)) = ((λ e. cc), λ e. cc)
  by_size (Some (true, suc m)) =
      let some : (suc m == 0) ≡ false = ne_eqb (suc m) 0 (λ k. absurd (omega arith)) in
      ((λ e. absurd (no_some n (sym (ap (λ (b : Bool). cond (not b) None (Some (suc m))) some) ∙ e))), λ e. absurd (apart m n e))
  by_size (Some (false, m)) = ((λ e. cc), λ e. cc)
