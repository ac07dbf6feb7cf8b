-- Paths of files as references of RFC 3986.
use Rattle.std.specs.Prelude.{ℕ, Bool, ◌==◌, ◌||◌, ◌&&◌, ◌/◌, ◌%◌, nat_le, if◌then◌else◌, [], ◌∷◌, ◌++◌, codes, flat_map}
use Rattle.text_bytes.specs.Text.{Text}
use Rattle.text_bytes.specs.Escapes.{hex_digit}
use Rattle.text_bytes.specs.Names.{dot, minus, percent, slash, underscore}
use Rattle.text_bytes.specs.Numbers.{is_digit}
use Rattle.text_bytes.specs.Texts.{begins_with}
use Rattle.engine_formats.specs.Human.{tilde}

-- whether a byte is a letter of ASCII
abbrev pub is_letter : ℕ → Bool
is_letter b = (nat_le 65 b && nat_le b 90) || (nat_le 97 b && nat_le b 122)

-- whether a byte stands for itself in a path: a letter, a digit, one of `-._~`, or `/`
abbrev pub is_kept : ℕ → Bool
is_kept b = is_letter b || is_digit b || b == minus || b == dot || b == underscore || b == tilde || b == slash

-- a byte by `%` and two hexadecimal digits
abbrev pub percent_byte : ℕ → Text
percent_byte b = percent ∷ hex_digit (b / 16) ∷ hex_digit (b % 16) ∷ []

-- a byte of a path, by `%` and two digits if it does not stand for itself
abbrev pub uri_byte : ℕ → Text
uri_byte b = if is_kept b then b ∷ [] else percent_byte b

-- a path, byte by byte
abbrev pub uri_path : Text → Text
uri_path path = flat_map uri_byte path

-- a path as a reference: that of a file of the system if it begins at the root, else one that is relative to what is checked
abbrev pub uri_of : Text → Text
uri_of path = if begins_with slash path then codes "file://" ++ uri_path path else uri_path path
