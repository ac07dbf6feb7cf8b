-- Numbers by their digits.
use Rattle.std.proofs.Common.{◌≡◌, ℕ, ◌+◌, ◌*◌, ◌<◌, ◌≤◌, List, length, get_or, drop, cond, Some, None, refl, add-one}
use Rattle.std.specs.Prelude.{nat_lt}
use Rattle.std.specs.Char.{digit_value}
use Rattle.std.proofs.Math.Seq.{drop-cons}
use Rattle.std.proofs.lemmas.List.{drop_all}
use Rattle.std.proofs.lemmas.Bool.{lt-ltb, le-ltb}
use Rattle.rule_tokens.specs.Reading.{scan}

scan_step : (base i v : ℕ) (digits : List ℕ) → i < length digits → scan base v (drop i digits) ≡ cond (nat_lt (digit_value (get_or digits i 0)) base) (cond (nat_lt (v * base + digit_value (get_or digits i 0)) 1114112) (scan base (v * base + digit_value (get_or digits i 0)) (drop (i + 1) digits)) None) None
unfolding scan
scan_step base i v digits h = rw (drop-cons digits i 0) (rw (add-one i) refl)

pub scan_done : (base i v : ℕ) (digits : List ℕ) → length digits ≤ i → scan base v (drop i digits) ≡ Some v
unfolding scan
scan_done base i v digits h = rw (drop_all i digits h) refl

pub scan_over : (base i v digit : ℕ) (digits : List ℕ) → i < length digits → digit_value (get_or digits i 0) ≡ digit → digit < base → v * base + digit < 1114112 → scan base v (drop i digits) ≡ scan base (v * base + digit) (drop (i + 1) digits)
scan_over base i v digit digits h e l m = rw (scan_step base i v digits h) (rw e (rw (lt-ltb digit base l) (rw (lt-ltb (v * base + digit) 1114112 m) refl)))

pub scan_large : (base i v digit : ℕ) (digits : List ℕ) → i < length digits → digit_value (get_or digits i 0) ≡ digit → digit < base → 1114112 ≤ v * base + digit → scan base v (drop i digits) ≡ None
scan_large base i v digit digits h e l m = rw (scan_step base i v digits h) (rw e (rw (lt-ltb digit base l) (rw (le-ltb (v * base + digit) 1114112 m) refl)))

pub scan_other : (base i v : ℕ) (digits : List ℕ) → i < length digits → base ≤ digit_value (get_or digits i 0) → scan base v (drop i digits) ≡ None
scan_other base i v digits h l = rw (scan_step base i v digits h) (rw (le-ltb (digit_value (get_or digits i 0)) base l) refl)

-- what a step of the loop over digits has shown, and its end
pub ruleset scan_steps = (scan_over, scan_large, scan_other, scan_done)
