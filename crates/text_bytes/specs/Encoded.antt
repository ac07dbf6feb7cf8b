-- A text as it is encoded, so that it can be read back.
use Rattle.std.specs.Prelude.{ℕ, ◌+◌, ◌*◌, ◌/◌, ◌%◌, ◌==◌, ◌||◌, ◌&&◌, not, Bool, if◌then◌else◌, [], ◌∷◌, ◌++◌, length, flat_map, slice_index, codes}
use Rattle.std.specs.List.{position_or_len, range_with_len}
use Rattle.text_bytes.specs.Text.{Text}
use Rattle.text_bytes.specs.Names.{backslash}
use Rattle.text_bytes.specs.Characters.{is_in_character}
use Rattle.text_bytes.specs.Safe.{stays_anywhere, value_marks}

-- whether the byte at a place stands for itself: a letter, a digit, one of the marks, or part of a UTF-8 sequence of several
-- bytes whose number a character may have; a backslash never does
unfoldable pub is_own : Text → ℕ → Bool
is_own text place = not (slice_index text place == backslash) && (stays_anywhere value_marks (slice_index text place) || is_in_character text place)

-- the lower case hexadecimal digits, in the order of their numbers
abbrev pub small_digits : Text
small_digits = codes "0123456789abcdef"

-- a byte as `\x` and two hexadecimal digits
abbrev pub in_digits : ℕ → Text
in_digits b = codes "\\x" ++ slice_index small_digits (b / 16) ∷ slice_index small_digits (b % 16) ∷ []

-- what stands for the byte at a place
unfoldable pub encoded_byte : Text → ℕ → Text
encoded_byte text place = if is_own text place then slice_index text place ∷ [] else in_digits (slice_index text place)

-- a text as it is encoded, byte by byte
unfoldable pub encoded : Text → Text
encoded text = flat_map (encoded_byte text) (range_with_len 0 (length text))

-- the number below 16 that a lower case digit writes
abbrev pub small_digit : ℕ → ℕ
small_digit digit = position_or_len (λ d. d == digit) small_digits

-- The text that is encoded so: a backslash, the byte after it and two digits are the byte of their number, and any other byte
-- is itself.
abbrev pub read_back : Text → Text
read_back [] = []
read_back (b ∷ []) = b ∷ []
read_back (b ∷ c ∷ []) = b ∷ c ∷ []
read_back (b ∷ c ∷ d ∷ []) = b ∷ c ∷ d ∷ []
read_back (b ∷ x ∷ high ∷ low ∷ rest) =
    if b == backslash then (16 * small_digit high + small_digit low) ∷ read_back rest
    else b ∷ read_back (x ∷ high ∷ low ∷ rest)
