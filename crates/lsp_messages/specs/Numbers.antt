-- The whole numbers that JSON writes.
use Rattle.std.specs.Prelude.{ℕ, ◌==◌, ◌++◌, Bool, Option, Some, None, drop, if◌then◌else◌, option_and_then}
use Rattle.std.specs.List.{list_all}
use Rattle.text_bytes.specs.Names.{digit_zero}
use Rattle.text_bytes.specs.Text.{Text}
use Rattle.text_bytes.specs.Texts.{begins_with}
use Rattle.fast_float.specs.Text.{Parts, minus, point_at, scan, whole_of}

-- whether digits are zeros alone
abbrev pub are_zeros : Text → Bool
are_zeros digits = list_all (λ digit. digit == digit_zero) digits

-- whether a number is whole: behind its point are zeros alone, once its exponent has moved the point
abbrev pub is_whole : Parts → Bool
is_whole number = are_zeros (drop (point_at number) (number.whole ++ number.fraction))

-- the whole number that a text without a sign writes, if it writes one
unfoldable pub unsigned : Text → Option ℕ
unsigned text = if is_whole (scan text) then Some (whole_of (scan text)) else None

-- zero alone
abbrev pub zero_alone : ℕ → Option ℕ
zero_alone number = if number == 0 then Some 0 else None

-- the whole number that a text writes, if it writes one that is not below zero
abbrev pub whole_number : Text → Option ℕ
whole_number text = if begins_with minus text then option_and_then zero_alone (unsigned (drop 1 text)) else unsigned text
