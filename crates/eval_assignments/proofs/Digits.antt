-- A mode that is reported as four octal digits is read back.
use Rattle.std.proofs.Common.{◌≡◌, ◌<◌, ◌^◌, ◌+◌, ◌*◌, ◌/◌, ◌%◌, ℕ, ◌==◌, true, false, cond, [], ◌∷◌, drop, nat_le, nat_lt, Some, None, refl, ap, ◌∙◌, arith}
use Rattle.std.specs.List.{list_all, prefix_len}
use Rattle.std.proofs.lemmas.Bool.{and_from, le-leb, lt-ltb, ne_eqb, or_from}
use Rattle.text_bytes.specs.Names.{is_blank}
use Rattle.text_bytes.specs.Texts.{unindented}
use Rattle.text_bytes.specs.Text.{Text}
use Rattle.rule_types.specs.Topics.{is_mode, is_octal, mode_of, octal}
use Rattle.eval_assignments.specs.Modes.{four_digits}

-- a digit is not a blank
not_blank : (d : ℕ) → is_blank (48 + d) ≡ false
not_blank d = or_from (48 + d == 32) (48 + d == 9) (ne_eqb (48 + d) 32 (λ e. omega (arith, e))) (ne_eqb (48 + d) 9 (λ e. omega (arith, e)))

-- the digit of a number below 8 is an octal one
octal_digit : (d : ℕ) → d < 8 → is_octal (48 + d) ≡ true
octal_digit d h = and_from (nat_le 48 (48 + d)) (nat_le (48 + d) 55) (le-leb 48 (48 + d) (omega arith)) (le-leb (48 + d) 55 (omega (arith, h)))

module _ (a b c d : ℕ) where
  -- four digits
  abbrev written : Text
  written = (48 + a) ∷ (48 + b) ∷ (48 + c) ∷ (48 + d) ∷ []

  unindented_same : unindented written ≡ written
  unindented_same = ap (λ v. drop (cond v (1 + prefix_len is_blank ((48 + b) ∷ (48 + c) ∷ (48 + d) ∷ [])) 0) written) (not_blank a)

  all_octal : a < 8 → b < 8 → c < 8 → d < 8 → list_all is_octal written ≡ true
  all_octal p q r s =
      and_from (is_octal (48 + a)) _ (octal_digit a p)
      (and_from (is_octal (48 + b)) _ (octal_digit b q) (and_from (is_octal (48 + c)) _ (octal_digit c r) (and_from (is_octal (48 + d)) true (octal_digit d s) refl)))

  value : octal written ≡ 512 * a + 64 * b + 8 * c + d
  value = omega arith

  read : a < 8 → b < 8 → c < 8 → d < 8 → mode_of written ≡ Some (512 * a + 64 * b + 8 * c + d)
  unfolding mode_of
  read p q r s =
      ap (λ t. cond (is_mode t) (Some (octal t)) None) unindented_same
      ∙ ap (λ v. cond v (Some (octal written)) None) (and_from (list_all is_octal written) _ (all_octal p q r s) (ap (λ n. nat_lt n (8 ^ 4)) value ∙ lt-ltb (512 * a + 64 * b + 8 * c + d) (8 ^ 4) (omega (arith, p, q, r, s))))
      ∙ ap (λ n. Some n) value

places : (n : ℕ) → n < 4096 → 512 * (n / 512) + 64 * (n / 64 % 8) + 8 * (n / 8 % 8) + n % 8 ≡ n
places n h = omega (arith, h)

greatest : (n : ℕ) → n < 4096 → n / 512 < 8
greatest n h = omega (arith, h)

below : (n : ℕ) → n % 8 < 8
below n = omega arith

-- a mode is read back
pub read_back : (n : ℕ) → n < 8 ^ 4 → mode_of (four_digits n) ≡ Some n
read_back n h =
    read (n / 512) (n / 64 % 8) (n / 8 % 8) (n % 8) (greatest n h) (below (n / 64)) (below (n / 8)) (below n) ∙ ap (λ m. Some m) (places n h)
