-- Octal digits that are read one by one, up to the digit at which they reach a bound.
use Rattle.std.proofs.Common.{◌≡◌, ℕ, ◌+◌, ◌*◌, ◌-◌, ◌^◌, ◌<◌, ◌≤◌, Bool, true, false, not, ◌&&◌, List, [], ◌∷◌, length, drop, get_or, Some, None, nat_lt, refl, arith, add-one, if◌then◌else◌}
use Rattle.std.proofs.Math.Seq.{drop-cons}
use Rattle.std.specs.List.{list_all}
use Rattle.text_bytes.specs.Texts.{is_empty}
use Rattle.rule_types.specs.Topics.{is_octal, octal_after, octal, is_mode}

-- a number with the digits from a place on is that with the digit there, and then those after it
pub number_on : (digits : List ℕ) (i n : ℕ) → i < length digits → octal_after n (drop i digits) ≡ octal_after (8 * n + (get_or digits i 0 - 48)) (drop (i + 1) digits)
number_on digits i n here = rw (drop-cons digits i 0, add-one i) refl

-- further digits make no number less
grows : (n : ℕ) (digits : List ℕ) → n ≤ octal_after n digits
grows n [] = omega arith
grows n (b ∷ digits) = let more = grows (8 * n + (b - 48)) digits in omega (arith, more)

both_false : (a b : Bool) → b ≡ false → (a && b) ≡ false
both_false true b h = h
both_false false b h = refl

below_false : (a b : ℕ) → b ≤ a → nat_lt a b ≡ false
below_false a b h = grind arith

-- a number that reaches the bound at some digit is not a mode
refused_great : (digits : List ℕ) (i n : ℕ) → octal_after n (drop i digits) ≡ octal digits → 8 ^ 4 ≤ n → is_mode digits ≡ false
refused_great digits i n number high =
    let more = grows n (drop i digits) in
    let great : 8 ^ 4 ≤ octal digits = omega (arith, more, number) in
    both_false (not (is_empty digits) && list_all is_octal digits) (nat_lt (octal digits) (8 ^ 4)) (below_false (octal digits) (8 ^ 4) great)

pub refused_mode : (digits : List ℕ) (i n : ℕ) → octal_after n (drop i digits) ≡ octal digits → 8 ^ 4 ≤ n → None ≡ (if is_mode digits then Some (octal digits) else None)
refused_mode digits i n number high = rw (refused_great digits i n number high) refl
