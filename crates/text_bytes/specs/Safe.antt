-- Which bytes of a text stay in the name of a link or of a network device, and what becomes of the others.
use Rattle.std.specs.Prelude.{ℕ, ◌+◌, ◌-◌, ◌==◌, ◌||◌, ◌&&◌, nat_le, nat_lt, Bool, is_some, if◌then◌else◌, length, drop, map, slice_index, codes}
use Rattle.std.specs.Char.{is_ascii_alphanumeric}
use Rattle.std.specs.List.{list_any, range_with_len}
use Rattle.text_bytes.specs.Text.{Text}
use Rattle.text_bytes.specs.Names.{backslash, space, underscore, is_whitespace}
use Rattle.bstr.specs.Utf8.{decoded}

-- the other bytes that stay in a link
abbrev pub link_marks : Text
link_marks = codes "#+-.:=@_/"

-- the other bytes that stay in the value of an attribute
abbrev pub attribute_marks : Text
attribute_marks = codes "#+-.:=@_/$%?,"

-- the other bytes that stay in a name that is made the value of a property: those of a link but the slash
abbrev pub value_marks : Text
value_marks = codes "#+-.:=@_"

-- whether a byte stays wherever it is
abbrev pub stays_anywhere : Text → ℕ → Bool
stays_anywhere marks b = is_ascii_alphanumeric b || list_any (λ mark. mark == b) marks

-- the length of the UTF-8 sequence of several bytes that a text begins with; 0 if it begins with none
unfoldable pub sequence_len : Text → ℕ
sequence_len text = if is_some (decoded text).char && nat_lt 1 (decoded text).size then (decoded text).size else 0

-- whether such a sequence begins so many bytes before a place and covers it
unfoldable pub is_reached : Text → ℕ → ℕ → Bool
is_reached text place back = nat_le back place && nat_lt back (sequence_len (drop (place - back) text))

-- whether a place is part of a UTF-8 sequence of two to four bytes
abbrev pub is_in_sequence : Text → ℕ → Bool
is_in_sequence text place = list_any (is_reached text place) (range_with_len 0 4)

-- whether a backslash is at a place, and directly after it an `x`
unfoldable pub is_hex_escape : Text → ℕ → Bool
is_hex_escape text place = slice_index text place == backslash && slice_index text (place + 1) == 120

-- whether the byte at a place stays
unfoldable pub stays : Text → Text → ℕ → Bool
stays marks text place = stays_anywhere marks (slice_index text place) || (is_hex_escape text place || is_in_sequence text place)

-- what is at a place of the safe text: the byte itself if it stays, a space for other whitespace, else `_`
unfoldable pub safe_byte : Text → Text → ℕ → ℕ
safe_byte marks text place =
    if stays marks text place then slice_index text place
    else if is_whitespace (slice_index text place) then space
    else underscore

-- a text made safe, byte by byte
unfoldable pub safe : Text → Text → Text
safe marks text = map (safe_byte marks text) (range_with_len 0 (length text))
