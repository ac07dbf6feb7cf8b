-- Any bytes as a string of JSON, which has to be UTF-8.
use Rattle.std.specs.Prelude.{ℕ, ◌/◌, ◌%◌, Bool, not, ◌&&◌, ◌||◌, nat_eq, nat_lt, if◌then◌else◌, [], ◌∷◌, ◌++◌, codes, drop, flat_map}
use Rattle.std.specs.List.{starts_with}
use Rattle.std.specs.Str.{is_utf8}
use Rattle.std.specs.Str.Lossy.{replacement_bytes}
use Rattle.text_bytes.specs.Text.{Text}
use Rattle.text_bytes.specs.Escapes.{hex_digit, is_escaped, unescaped}
use Rattle.json.specs.Json.{Json, string}

-- whether a text begins with U+FFFD, by which Unicode marks what it has no character for
abbrev pub is_marked : Text → Bool
is_marked text = starts_with nat_eq text replacement_bytes

-- whether a text stands for itself: it is UTF-8, and does not begin with that mark
abbrev pub is_itself : Text → Bool
is_itself text = is_utf8 text && not (is_marked text)

-- whether a byte of another text stands for itself: it is ASCII, and needs no escape
abbrev pub stands : ℕ → Bool
stands b = nat_lt b 128 && not (is_escaped b)

-- a byte of such a text: itself, or `\x` and two hexadecimal digits
abbrev pub told_byte : ℕ → Text
told_byte b = if stands b then b ∷ [] else codes "\\x" ++ hex_digit (b / 16) ∷ hex_digit (b % 16) ∷ []

-- a text as JSON tells it: itself, or the mark and then byte by byte
unfoldable pub told_text : Text → Text
told_text text = if is_itself text then text else replacement_bytes ++ flat_map told_byte text

-- a text as a string of JSON
abbrev pub told : Text → Json
told text = string (told_text text)

-- the text that is told so
abbrev pub told_read : Text → Text
told_read said = if is_marked said then unescaped (drop 3 said) else said
