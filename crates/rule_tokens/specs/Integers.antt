-- Integers as udev reads them: in base 2, 8, 10 or 16, with a sign or without one.
use Rattle.std.specs.Prelude.{ℕ, ◌^◌, ℤ, pos, neg_ℤ, Bool, true, false, not, ◌==◌, ◌&&◌, ◌||◌, nat_lt}
use Rattle.std.specs.Prelude.{[], ◌∷◌, Option, Some, None, option_map, if◌then◌else◌}
use Rattle.std.specs.Char.{digit_value, eq_ignore_ascii_case}
use Rattle.std.specs.List.{list_all}
use Rattle.std.specs.Option.{unwrap_or}
use Rattle.std.specs.Str.Parse.{digits_value}
use Rattle.text_bytes.specs.Text.{Text}
use Rattle.text_bytes.specs.Names.{newline, carriage_return, plus, minus, digit_zero, is_blank, is_whitespace}
use Rattle.text_bytes.specs.Texts.{is_empty, begins_with, skip_while}
use Rattle.rule_tokens.specs.declared.integers.Base.{Base}
use Rattle.rule_tokens.specs.declared.integers.Base.TheVariants.{Binary, Octal, Open}

abbrev pub letter_b : ℕ
letter_b = 98

abbrev pub letter_o : ℕ
letter_o = 111

abbrev pub letter_x : ℕ
letter_x = 120

-- a space, a tab, or one of the two bytes that end lines
abbrev pub is_separator : ℕ → Bool
is_separator b = is_blank b || (b == newline || b == carriage_return)

-- whether these are digits of a base, one or more
abbrev pub are_digits : ℕ → Text → Bool
are_digits base digits = not (is_empty digits) && list_all (λ d. nat_lt (digit_value d) base) digits

-- the number that digits of a base write, if it has at most 32 bits
unfoldable pub size_in : ℕ → Text → Option ℕ
size_in base digits = if are_digits base digits && nat_lt (digits_value base digits) (2 ^ 32) then Some (digits_value base digits) else None

-- what follows a `0` and this letter, in either case
abbrev pub rest_after_mark : ℕ → Text → Option Text
rest_after_mark letter [] = None
rest_after_mark letter (b ∷ []) = None
rest_after_mark letter (b ∷ c ∷ text) = if b == digit_zero && eq_ignore_ascii_case c letter then Some text else None

-- the number that digits write, by what is in them after `0x`, and after `0b`
abbrev pub size_by : Text → Option Text → Option Text → Option ℕ
size_by text (Some digits) binary = size_in 16 digits
size_by text None (Some digits) = size_in 2 digits
size_by text None None = size_in (if begins_with digit_zero text then 8 else 10) text

-- The number after a sign: if no mark came before the sign, hexadecimal digits after `0x`, binary ones after `0b`,
-- octal ones from a `0` on, and otherwise decimal ones.
abbrev pub size_of : Base → Text → Option ℕ
size_of Binary text = size_in 2 (unwrap_or (rest_after_mark letter_b text) text)
size_of Octal text = size_in 8 text
size_of Open text = size_by text (rest_after_mark letter_x text) (rest_after_mark letter_b text)

-- a base, and what follows its mark, by what follows `0b`, and after `0o`
abbrev pub marked_by : Text → Option Text → Option Text → Base × Text
marked_by text (Some rest) octal = (Binary, rest)
marked_by text None (Some rest) = (Octal, rest)
marked_by text None None = (Open, text)

-- the base that a mark in front determines, and what follows the mark
unfoldable pub marked : Text → Base × Text
marked text = marked_by text (rest_after_mark letter_b text) (rest_after_mark letter_o text)

-- whether a minus is in front, and what follows the sign, if there is one
unfoldable pub signed : Text → Bool × Text
signed [] = (false, [])
signed (b ∷ text) = if b == minus then (true, text) else if b == plus then (false, text) else (false, b ∷ text)

-- a sign and a number, if the digits after the sign write one
abbrev pub with_size : Bool → Option ℕ → Option (Bool × ℕ)
with_size negative size = option_map (λ n. (negative, n)) size

-- the sign, true for a minus, and the number after it, in what follows the mark of a base
abbrev pub after_mark : Base × Text → Option (Bool × ℕ)
after_mark start = with_size (signed (skip_while is_whitespace start.1)).0 (size_of start.0 (signed (skip_while is_whitespace start.1)).1)

-- The sign and the number that a text writes: spaces, tabs and ends of lines; a mark `0b` or `0o`, if there is one; white space; a sign,
-- if there is one; and digits up to the end.
unfoldable pub signed_size : Text → Option (Bool × ℕ)
signed_size text = after_mark (marked (skip_while is_separator text))

-- the integer of a sign, true for a minus, and a number
abbrev pub with_sign : Bool × ℕ → ℤ
with_sign (true, n) = neg_ℤ (pos n)
with_sign (false, n) = pos n

-- the integer that a text writes, if it has at most 32 bits without its sign
unfoldable pub integer_of : Text → Option ℤ
integer_of text = option_map with_sign (signed_size text)

-- a number that is not below zero; a zero may have a minus
abbrev pub not_below_zero : Option (Bool × ℕ) → Option ℕ
not_below_zero None = None
not_below_zero (Some x) = if x.0 && not (x.1 == 0) then None else Some x.1

-- the integer that a text writes, if it is not below zero
unfoldable pub natural_of : Text → Option ℕ
natural_of text = not_below_zero (signed_size text)
