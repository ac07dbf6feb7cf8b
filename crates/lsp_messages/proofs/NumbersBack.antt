-- Numbers that are written in digits are read as they were.
use Rattle.std.proofs.Common.{◌≡◌, ℕ, ◌+◌, ◌-◌, ◌*◌, ◌^◌, ◌<◌, false, List, [], ◌∷◌, ◌++◌, length, take, drop, Some, None, cond, decimal, option_map, refl, ap, sym, ◌∙◌, arith, append-nil}
use Rattle.std.specs.Str.Parse.{AllDigits, digits_value}
use Rattle.std.proofs.lemmas.Fmt.{decimal_is_IsNumeral}
use Rattle.std.proofs.lemmas.Str.Parse.{digit_from_value}
use Rattle.std.proofs.lemmas.Bool.{ne_eqb}
use Rattle.std.proofs.lemmas.List.{drop_all, take_all}
use Rattle.fast_float.proofs.Writing.{scan-text_of}
use Rattle.fast_float.specs.Text.{Parts, IsWellFormed, minus, scan}
use Rattle.text_bytes.specs.Texts.{begins_with}
use Rattle.text_bytes.specs.Numbers.{capped}
use Rattle.lsp_messages.specs.Numbers.{are_zeros, unsigned, whole_number}

-- digits as a number without point and exponent
abbrev pub plain : List ℕ → Parts
plain digits = record { whole = digits; point = false; fraction = []; exponent_negative = false; exponent = []; len = length digits }

well_formed : (digits : List ℕ) → AllDigits 10 digits → IsWellFormed (plain digits)
well_formed digits h = record {
  whole_digits = h;
  fraction_digits = tt;
  exponent_digits = tt;
  no_point = λ e. refl;
  no_exponent = λ e. refl;
  len_is = ap length (sym (append-nil digits));
}

scan_plain : (digits : List ℕ) → AllDigits 10 digits → scan digits ≡ plain digits
scan_plain digits h = ap scan (sym (append-nil digits)) ∙ scan-text_of (plain digits) (well_formed digits h)

-- a number whose point stands behind all its digits
behind_all : (digits all : List ℕ) (point : ℕ) → all ≡ digits → point ≡ length digits
    → cond (are_zeros (drop point all)) (Some (digits_value 10 (take point all) * 10 ^ (point - length all))) None ≡ Some (digits_value 10 digits)
behind_all digits all point is at =
    let none : length digits - length digits ≡ 0 = omega arith in
    rw (is, at, drop_all (length digits) digits (omega arith), take_all (length digits) digits (omega arith), none) (ap Some (omega arith))

unsigned_back : (digits : List ℕ) → AllDigits 10 digits → unsigned digits ≡ Some (digits_value 10 digits)
unfolding unsigned
unsigned_back digits h = rw (scan_plain digits h) (behind_all digits (digits ++ []) (length digits + 0) (append-nil digits) (omega arith))

-- no sign stands before a digit
no_sign : (digits : List ℕ) → AllDigits 10 digits → begins_with minus digits ≡ false
no_sign [] h = refl
no_sign (d ∷ ds) h = let r = digit_from_value d h.0 in ne_eqb d 45 (λ e. omega arith)

-- a number that is written in decimal digits is read as it was
pub number_back : (n : ℕ) → n < 2 ^ 32 → option_map capped (whole_number (decimal n)) ≡ Some n
number_back n h =
    let is = decimal_is_IsNumeral n (omega arith) in
    rw (no_sign (decimal n) is.0.1, unsigned_back (decimal n) is.0.1, is.1) (ap Some (omega arith))
