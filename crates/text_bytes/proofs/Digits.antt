-- Numbers that are read digit by digit, up to the digit at which they reach a bound.
use Rattle.std.proofs.Common.{◌≡◌, ℕ, ◌+◌, ◌*◌, ◌-◌, ◌<◌, ◌≤◌, Bool, true, false, not, ◌&&◌, List, [], ◌∷◌, length, drop, get_or, None, nat_lt, refl, arith, add-one}
use Rattle.std.proofs.Math.Seq.{drop-cons}
use Rattle.std.specs.List.{list_all}
use Rattle.text_bytes.specs.Texts.{is_empty}
use Rattle.text_bytes.specs.Numbers.{is_digit, decimal_after, decimal, decimal_below}

-- a number with the digits from a place on is that with the digit there, and then those after it
pub number_on : (text : List ℕ) (i n : ℕ) → i < length text → decimal_after n (drop i text) ≡ decimal_after (10 * n + (get_or text i 0 - 48)) (drop (i + 1) text)
number_on text i n here = rw (drop-cons text i 0, add-one i) refl

-- further digits make no number less
grows : (n : ℕ) (text : List ℕ) → n ≤ decimal_after n text
grows n [] = omega arith
grows n (b ∷ text) = let more = grows (10 * n + (b - 48)) text in omega (arith, more)

both_false : (a b : Bool) → b ≡ false → (a && b) ≡ false
both_false true b h = h
both_false false b h = refl

below_false : (a b : ℕ) → b ≤ a → nat_lt a b ≡ false
below_false a b h = grind arith

-- a number that reaches the bound at some digit is not below it
pub refused_great : (bound : ℕ) (text : List ℕ) (i n : ℕ) → decimal_after n (drop i text) ≡ decimal text → bound ≤ n → None ≡ decimal_below bound text
unfolding decimal_below
refused_great bound text i n number high =
    let more = grows n (drop i text) in
    let great : bound ≤ decimal text = omega (arith, more, number) in
    rw (below_false (decimal text) bound great, both_false (not (is_empty text) && list_all is_digit text) false refl) refl
