-- D8: what a property may be called.
use Rattle.std.specs.Prelude.{ℕ, Bool, false, not, ◌==◌, ◌&&◌, ◌||◌, nat_le, [], ◌∷◌, length, codes, Option, Some, None}
use Rattle.std.specs.List.{list_all}
use Rattle.text_bytes.specs.Names.{underscore}
use Rattle.text_bytes.specs.Numbers.{is_digit}
use Rattle.text_bytes.specs.Texts.{following, is_empty}
use Rattle.text_bytes.specs.Text.{Text}
use Rattle.text_tables.specs.Texts.{same_text}
use Rattle.hwdb_core.specs.Forms.{is_small_digit}

-- a capital letter
abbrev pub is_capital : ℕ → Bool
is_capital byte = nat_le 65 byte && nat_le byte 90

-- a capital letter, a digit or `_`
abbrev pub is_name_byte : ℕ → Bool
is_name_byte byte = (is_capital byte || is_digit byte) || byte == underscore

-- whether a text begins with a capital letter
abbrev pub begins_with_capital : Text → Bool
begins_with_capital [] = false
begins_with_capital (byte ∷ text) = is_capital byte

-- whether a text is some hexadecimal digits in small letters
abbrev pub are_small_digits : Text → Bool
are_small_digits text = not (is_empty text) && list_all is_small_digit text

-- the name of a property by what follows `KEYBOARD_KEY_` in it, or else `EVDEV_ABS_`: a scan code in small letters, or
-- an axis of two digits; any other name is capital letters, digits and `_`, of which a letter is the first
abbrev pub is_name_by : Option Text → Option Text → Text → Bool
is_name_by (Some code) axis name = are_small_digits code
is_name_by None (Some axis) name = are_small_digits axis && length axis == 2
is_name_by None None name = begins_with_capital name && list_all is_name_byte name

-- the property that sane gives its scanners, the only one in small letters
abbrev pub of_sane : Text
of_sane = codes "libsane_matched"

-- whether a program can ask for a property of this name
abbrev pub is_name : Text → Bool
is_name name = same_text name of_sane || is_name_by (following (codes "KEYBOARD_KEY_") name) (following (codes "EVDEV_ABS_") name) name
