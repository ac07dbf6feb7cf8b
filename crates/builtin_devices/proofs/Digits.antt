-- Numbers that are read digit by digit, up to the digit at which they are too great.
use Rattle.std.proofs.Common.{◌≡◌, ℕ, ◌+◌, ◌*◌, ◌<◌, ◌≤◌, Bool, true, false, not, ◌&&◌, List, [], ◌∷◌, length, drop, get_or, None, nat_le, refl, sym, subst, ◌∙◌, arith, add-one}
use Rattle.std.proofs.Math.Nat.{mul-le-mul_right}
use Rattle.std.proofs.Math.Seq.{drop-cons}
use Rattle.std.specs.List.{list_all}
use Rattle.text_bytes.specs.Texts.{is_empty}
use Rattle.builtin_devices.specs.Numbers.{digit_value, digits_in, is_digit_in, number_after}

-- a number with the digits from a place on is that with the digit there, and then those after it
pub number_on : (base : ℕ) (text : List ℕ) (i n : ℕ) → i < length text → number_after base n (drop i text) ≡ number_after base (base * n + digit_value (get_or text i 0)) (drop (i + 1) text)
number_on base text i n here = rw (drop-cons text i 0, add-one i) refl

grown : (base n digit : ℕ) → 1 ≤ base → n ≤ base * n + digit
grown base n digit some = let more : 1 * n ≤ base * n = mul-le-mul_right n some in omega (arith, more)

-- further digits make no number less
grows : (base n : ℕ) (text : List ℕ) → 1 ≤ base → n ≤ number_after base n text
grows base n [] some = omega arith
grows base n (b ∷ text) some =
    let here = grown base n (digit_value b) some in
    let more = grows base (base * n + digit_value b) text some in
    omega (arith, here, more)

both_false : (a b : Bool) → b ≡ false → (a && b) ≡ false
both_false true b h = h
both_false false b h = refl

not_within : (a b : ℕ) → b < a → nat_le a b ≡ false
not_within a b h = grind arith

-- digits whose number is too great at one of them are not a number
pub refused_great : (base most : ℕ) (text : List ℕ) (i n : ℕ) → 1 ≤ base → i < length text → number_after base n (drop i text) ≡ number_after base 0 text
    → most < base * n + digit_value (get_or text i 0) → None ≡ digits_in base most text
unfolding digits_in
refused_great base most text i n some here number high =
    let next = base * n + digit_value (get_or text i 0) in
    let more = grows base next (drop (i + 1) text) some in
    let on = sym (number_on base text i n here) ∙ number in
    let great : most < number_after base 0 text = omega (arith, more, on, high) in
    rw (not_within (number_after base 0 text) most great, both_false (not (is_empty text) && list_all (is_digit_in base) text) false refl) refl

-- a number that is too great is so by what its parts are
pub carried : {m most b base n number d digit : ℕ} → m ≡ most → b ≡ base → n ≡ number → d ≡ digit → m < b * n + d → most < base * number + digit
carried {m} {most} {b} {base} {n} {number} {d} {digit} e f g i h =
    subst (λ x. most < base * number + x) i (subst (λ x. most < base * x + d) g (subst (λ x. most < x * n + d) f (subst (λ x. x < b * n + d) e h)))
