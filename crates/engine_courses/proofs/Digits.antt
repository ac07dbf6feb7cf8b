-- The number of a line, by what is read of decimal digits.
use Rattle.std.proofs.Common.{◌≡◌, ℕ, ◌-◌, ◌^◌, Bool, true, false, ◌&&◌, cond, min, nat_lt, Some, None, refl, ap, sym, arith}
use Rattle.std.proofs.lemmas.Bool.Decides.{nat_tests}
use Rattle.text_bytes.specs.Numbers.{decimal, decimal_below, is_decimal}
use Rattle.text_bytes.specs.Text.{Text}
use Rattle.engine_courses.specs.Nearest.{line_number}

below_is : (n m : ℕ) (t : Bool) → nat_lt m (2 ^ 32) ≡ t → Some n ≡ cond t (Some m) None → Some n ≡ Some (min m (2 ^ 32 - 1))
below_is n m true e h = let same : n ≡ m = cc in ap Some (grind (arith, nat_tests))
below_is n m false e h = cc

above_is : (m : ℕ) (t : Bool) → nat_lt m (2 ^ 32) ≡ t → None ≡ cond t (Some m) None → Some (2 ^ 32 - 1) ≡ Some (min m (2 ^ 32 - 1))
above_is m true e h = cc
above_is m false e h = ap Some (grind (arith, nat_tests))

-- the number of a line that was read
pub line_read : (digits : Text) (n : ℕ) → true ≡ is_decimal digits → Some n ≡ decimal_below (2 ^ 32) digits → Some n ≡ line_number digits
unfolding decimal_below
line_read digits n d h = by (is_decimal digits) (sym d) h
  where
    by : (p : Bool) → p ≡ true → Some n ≡ cond (p && nat_lt (decimal digits) (2 ^ 32)) (Some (decimal digits)) None → Some n ≡ cond p (Some (min (decimal digits) (2 ^ 32 - 1))) None
    by true e g = below_is n (decimal digits) (nat_lt (decimal digits) (2 ^ 32)) refl g
    by false e g = cc

-- the same if it is too great
pub line_capped : (digits : Text) → true ≡ is_decimal digits → None ≡ decimal_below (2 ^ 32) digits → Some (2 ^ 32 - 1) ≡ line_number digits
unfolding decimal_below
line_capped digits d h = by (is_decimal digits) (sym d) h
  where
    by : (p : Bool) → p ≡ true → None ≡ cond (p && nat_lt (decimal digits) (2 ^ 32)) (Some (decimal digits)) None → Some (2 ^ 32 - 1) ≡ cond p (Some (min (decimal digits) (2 ^ 32 - 1))) None
    by true e g = above_is (decimal digits) (nat_lt (decimal digits) (2 ^ 32)) refl g
    by false e g = cc
