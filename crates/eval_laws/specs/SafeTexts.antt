-- What a safe text consists of, and what making a text safe does to each byte: in terms of the bytes alone.
use Rattle.std.specs.Prelude.{◌≡◌, ℕ, ◌+◌, ◌<◌, ◌≤◌, ◌==◌, true, false, length, drop, slice_index, Some}
use Rattle.std.specs.Char.{is_ascii_alphanumeric}
use Rattle.std.specs.List.{list_any}
use Rattle.text_bytes.specs.Text.{Text}
use Rattle.text_bytes.specs.Names.{backslash, space, underscore, is_whitespace}
use Rattle.bstr.specs.Utf8.{decoded}

-- The byte at a place is over 127 and part of a UTF-8 sequence: a character is decoded from this start on, and its
-- bytes cover the place.
pub record IsInCharacter (text : Text) (place : ℕ) : Type 0 where
  pub high : 127 < slice_index text place
  pub start : ℕ
  pub char : ℕ
  pub begins : start ≤ place
  pub decodes : (decoded (drop start text)).char ≡ Some char
  pub reaches : place < start + (decoded (drop start text)).size

-- The byte at a place is an ASCII letter or digit, one of the marks, a space, a backslash with an `x` after it, or part
-- of a UTF-8 sequence of several bytes.
pub data IsSafeByte (marks text : Text) (place : ℕ) : Type 0 where
  letter_or_digit : is_ascii_alphanumeric (slice_index text place) ≡ true → IsSafeByte marks text place
  mark : list_any (λ m. m == slice_index text place) marks ≡ true → IsSafeByte marks text place
  blank : slice_index text place ≡ space → IsSafeByte marks text place
  escape : slice_index text place ≡ backslash → slice_index text (place + 1) ≡ 120 → IsSafeByte marks text place
  character : IsInCharacter text place → IsSafeByte marks text place

-- each byte of a text is one of these
abbrev pub IsSafe : Text → Text → Type 0
IsSafe marks text = (place : ℕ) → place < length text → IsSafeByte marks text place

-- A text has become another one of the same length: at this place a safe byte stayed, other whitespace became a
-- space, and any other byte `_`.
pub record IsMadeSafe (marks text made : Text) (place : ℕ) : Type 0 where
  pub kept : IsSafeByte marks text place → slice_index made place ≡ slice_index text place
  pub blank : ¬ IsSafeByte marks text place → is_whitespace (slice_index text place) ≡ true → slice_index made place ≡ space
  pub other : ¬ IsSafeByte marks text place → is_whitespace (slice_index text place) ≡ false → slice_index made place ≡ underscore
