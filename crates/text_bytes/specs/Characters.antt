-- Numbers that no character of Unicode has, and what becomes of them in a text that a device reports about itself.
use Rattle.std.specs.Prelude.{ℕ, ◌-◌, ◌%◌, ◌&&◌, ◌||◌, not, nat_le, nat_lt, Bool, false, Option, Some, None, if◌then◌else◌, length, drop, map}
use Rattle.std.specs.List.{list_any, range_with_len}
use Rattle.text_bytes.specs.Text.{Text}
use Rattle.text_bytes.specs.Names.{underscore}
use Rattle.bstr.specs.Utf8.{decoded}
use Rattle.text_bytes.specs.Safe.{is_in_sequence, safe_byte, value_marks}

-- whether no character ever has a number: FDD0 to FDEF, and the last two of each 65,536
abbrev pub is_noncharacter : ℕ → Bool
is_noncharacter c = nat_le 0xFDD0 c && nat_le c 0xFDEF || nat_le 0xFFFE (c % 0x10000)

-- whether there is such a number
abbrev pub is_no_character : Option ℕ → Bool
is_no_character None = false
is_no_character (Some c) = is_noncharacter c

-- the length of the UTF-8 sequence of such a number that a text begins with; 0 if it begins with none
unfoldable pub noncharacter_len : Text → ℕ
noncharacter_len text = if is_no_character (decoded text).char then (decoded text).size else 0

-- whether such a sequence begins so many bytes before a place and covers it
unfoldable pub is_covered : Text → ℕ → ℕ → Bool
is_covered text place back = nat_le back place && nat_lt back (noncharacter_len (drop (place - back) text))

-- whether a place is part of such a sequence, which has three or four bytes
abbrev pub is_in_noncharacter : Text → ℕ → Bool
is_in_noncharacter text place = list_any (is_covered text place) (range_with_len 0 4)

-- whether a place is part of the UTF-8 sequence of a number that a character may have
abbrev pub is_in_character : Text → ℕ → Bool
is_in_character text place = is_in_sequence text place && not (is_in_noncharacter text place)

-- what is at a place of a text made safe as a value: `_` for each byte of such a sequence
unfoldable pub value_byte : Text → ℕ → ℕ
value_byte text place = if is_in_noncharacter text place then underscore else safe_byte value_marks text place

-- a text made safe as a value, byte by byte
unfoldable pub value_safe : Text → Text
value_safe text = map (value_byte text) (range_with_len 0 (length text))
