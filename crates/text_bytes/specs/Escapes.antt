-- How bytes of a file are written in an output, so that none of them can be taken for a part of it.
use Rattle.std.specs.Prelude.{ℕ, ◌+◌, ◌*◌, Bool, ◌==◌, ◌||◌, ◌/◌, ◌%◌, nat_lt, ◌∷◌, [], ◌++◌, codes, slice_index, flat_map, if◌then◌else◌}
use Rattle.std.specs.List.{position_or_len}
use Rattle.text_bytes.specs.Text.{Text}
use Rattle.text_bytes.specs.Names.{space, delete, backslash}

-- a control byte of ASCII
abbrev pub is_control : ℕ → Bool
is_control b = nat_lt b space || b == delete

-- the bytes that don't stand for themselves
abbrev pub is_escaped : ℕ → Bool
is_escaped b = is_control b || b == backslash

-- the upper case hexadecimal digits, in the order of their numbers
abbrev pub hex_digits : Text
hex_digits = codes "0123456789ABCDEF"

-- the digit of a number below 16
abbrev pub hex_digit : ℕ → ℕ
hex_digit n = slice_index hex_digits n

-- a byte as it is written: by `\x` and two hexadecimal digits, or as it is
abbrev pub escape_byte : ℕ → Text
escape_byte b = if is_escaped b then codes "\\x" ++ hex_digit (b / 16) ∷ hex_digit (b % 16) ∷ [] else b ∷ []

-- a text as it is written, byte by byte
abbrev pub escape_text : Text → Text
escape_text text = flat_map escape_byte text

-- the number below 16 that a digit writes
abbrev pub digit_value : ℕ → ℕ
digit_value digit = position_or_len (λ d. d == digit) hex_digits

-- The text that is written so: a backslash, the byte after it and two digits are the byte of their number, and any other byte
-- is itself.
abbrev pub unescaped : Text → Text
unescaped [] = []
unescaped (b ∷ []) = b ∷ []
unescaped (b ∷ c ∷ []) = b ∷ c ∷ []
unescaped (b ∷ c ∷ d ∷ []) = b ∷ c ∷ d ∷ []
unescaped (b ∷ x ∷ high ∷ low ∷ rest) =
    if b == backslash then (16 * digit_value high + digit_value low) ∷ unescaped rest
    else b ∷ unescaped (x ∷ high ∷ low ∷ rest)
