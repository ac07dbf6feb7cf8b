-- Numbers as udev reads them in what the kernel reports, the number of a kernel's name, and bytes in hexadecimal
-- digits.
use Rattle.std.specs.Prelude.{ℕ, ◌+◌, ◌-◌, ◌*◌, ◌==◌, ◌&&◌, ◌||◌, not, nat_le, nat_lt, Bool, false, List, [], ◌∷◌, Option, Some, None, drop, if◌then◌else◌}
use Rattle.std.specs.List.{list_all}
use Rattle.std.specs.Option.{option_and_then}
use Rattle.std.specs.Result.{result_ok}
use Rattle.hex.specs.Hex.{decode_of}
use Rattle.text_bytes.specs.Names.{digit_zero, minus, plus, is_whitespace}
use Rattle.text_bytes.specs.Numbers.{is_digit}
use Rattle.text_bytes.specs.Texts.{begins_with, is_empty, skip_while}
use Rattle.text_bytes.specs.Text.{Text}
use Rattle.text_tables.specs.Texts.{same_text}
use Rattle.text_bytes.specs.Kernels.{longest_end}
use Rattle.builtin_devices.specs.declared.numbers.Base.{Base}
use Rattle.builtin_devices.specs.declared.numbers.Base.TheVariants.{AsWritten, Decimal, Hexadecimal}

-- whether a byte is between two others
abbrev pub is_between : ℕ → ℕ → ℕ → Bool
is_between first last b = nat_le first b && nat_le b last

-- the number that a digit writes, `0` to `9`, `a` to `f` and `A` to `F`; 16 for a byte that is not a digit
abbrev pub digit_value : ℕ → ℕ
digit_value b =
    if is_between 48 57 b then b - 48
    else if is_between 97 102 b then b - 87
    else if is_between 65 70 b then b - 55
    else 16

-- whether a byte is a digit of a base
abbrev pub is_digit_in : (base : ℕ) → ℕ → Bool
is_digit_in base b = nat_lt (digit_value b) base

-- the number that digits write after those of n
abbrev pub number_after : (base n : ℕ) → Text → ℕ
number_after base n [] = n
number_after base n (b ∷ text) = number_after base (base * n + digit_value b) text

-- the number that one digit of a base or more write, if it is at most `most`
unfoldable pub digits_in : (base most : ℕ) → Text → Option ℕ
digits_in base most text =
    if not (is_empty text) && list_all (is_digit_in base) text && nat_le (number_after base 0 text) most then Some (number_after base 0 text)
    else None

-- whether a text begins with `0` and one of two bytes
abbrev pub is_marked : (small large : ℕ) → Text → Bool
is_marked small large [] = false
is_marked small large (b ∷ []) = false
is_marked small large (b ∷ c ∷ text) = b == digit_zero && (c == small || c == large)

-- a base, and the digits of a number in it
pub record Written : Type 0 where
  pub base : ℕ
  pub digits : Text

-- Digits by the base that is asked for: if none is, `0x`, `0b` and `0o`, with small or capital letters, say it, a
-- leading zero means eight, and otherwise it is ten. In base sixteen there may be a `0x`.
unfoldable pub written : Base → Text → Written
written AsWritten text =
    if is_marked 120 88 text then record { base = 16; digits = drop 2 text }
    else if is_marked 98 66 text then record { base = 2; digits = drop 2 text }
    else if is_marked 111 79 text then record { base = 8; digits = drop 2 text }
    else if begins_with digit_zero text then record { base = 8; digits = text }
    else record { base = 10; digits = text }
written Decimal text = record { base = 10; digits = text }
written Hexadecimal text = if is_marked 120 88 text then record { base = 16; digits = drop 2 text } else record { base = 16; digits = text }

-- whether a text begins with a sign
abbrev pub is_signed : Text → Bool
is_signed text = begins_with minus text || begins_with plus text

-- a text without the sign that it begins with, if it does
abbrev pub unsigned : Text → Text
unsigned text = if is_signed text then drop 1 text else text

-- the size of the number that a text is without blanks before it: perhaps a sign, then only digits
abbrev pub size_in : Base → (most : ℕ) → Text → Option ℕ
size_in base most text = digits_in (written base (unsigned text)).base most (written base (unsigned text)).digits

-- a number below zero is not natural, but `-0` is zero
abbrev pub natural : (is_negative : Bool) → ℕ → Option ℕ
natural is_negative size = if is_negative && not (size == 0) then None else Some size

-- the number that a text is, if it is not below zero and at most `most`: blanks may come before it, and a sign
unfoldable pub number_in : Base → (most : ℕ) → Text → Option ℕ
number_in base most text =
    let bare = skip_while is_whitespace text in
    option_and_then (natural (begins_with minus bare)) (size_in base most bare)

-- whether a number is there, and the same
abbrev pub is_number : ℕ → Option ℕ → Bool
is_number number None = false
is_number number (Some other) = number == other

-- whether there is a number, and it is above zero
abbrev pub is_above_zero : Option ℕ → Bool
is_above_zero None = false
is_above_zero (Some number) = nat_lt 0 number

-- whether a text is a number below zero, and not below `-most`
unfoldable pub is_below_zero : Base → (most : ℕ) → Text → Bool
is_below_zero base most text =
    let bare = skip_while is_whitespace text in
    begins_with minus bare && is_above_zero (size_in base most bare)

-- the digits that a kernel's name ends in; a name of digits alone has none
unfoldable pub name_number : (kernel : Text) → Option Text
name_number kernel =
    let digits = longest_end is_digit kernel in
    if is_empty digits || same_text digits kernel then None else Some digits

-- the bytes that hexadecimal digits write, two for each; none if another byte is among them, or a digit is alone
abbrev pub bytes_of : Text → Option (List ℕ)
bytes_of text = result_ok (decode_of text)
