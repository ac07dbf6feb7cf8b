-- D13: the values that properties take.
use Rattle.std.specs.Prelude.{ℕ, Bool, true, not, ◌==◌, ◌&&◌, ◌||◌, nat_le, if◌then◌else◌, List, [], ◌∷◌, map, count_by, codes, Option, Some, None}
use Rattle.std.specs.Prelude.{unwrap_or}
use Rattle.std.specs.List.{list_all}
use Rattle.text_bytes.specs.Names.{colon, comma, dot, minus, plus, space, star, underscore, is_blank}
use Rattle.text_bytes.specs.Numbers.{is_digit}
use Rattle.text_bytes.specs.Texts.{following, is_empty}
use Rattle.text_bytes.specs.Text.{Text}
use Rattle.text_tables.specs.Texts.{is_among, same_text}
use Rattle.hwdb_core.specs.declared.properties.TheConstants.{CHOICES, FLAGS, INPUT_FLAGS, LAYOUTS, NUMBERS}

-- the properties that are `1` or `0`
abbrev pub flags : List Text
flags = map (λ name. name.now) FLAGS

-- those that may also be empty
abbrev pub input_flags : List Text
input_flags = map (λ name. name.now) INPUT_FLAGS

-- those that are a whole number
abbrev pub numbers : List Text
numbers = map (λ name. name.now) NUMBERS

-- those that name a keyboard's layout
abbrev pub layouts : List Text
layouts = map (λ name. name.now) LAYOUTS

-- those that are one of some words
abbrev pub choices : List (Text × List Text)
choices = map (λ choice. (choice.0.now, map (λ word. word.now) choice.1.now)) CHOICES

-- `1` or `0`
abbrev pub is_flag : Text → Bool
is_flag value = same_text value (codes "1") || same_text value (codes "0")

-- a text without this prefix, if it has that
abbrev pub without : Text → Text → Text
without prefix text = unwrap_or (following prefix text) text

-- a whole number, which may be negative
abbrev pub is_integer : Text → Bool
is_integer value = not (is_empty (without (codes "-") value)) && list_all is_digit (without (codes "-") value)

-- a byte that names of keyboard layouts have: `_`, from `+` to `9`, from `@` to `Z`, a small letter
abbrev pub is_layout_byte : ℕ → Bool
is_layout_byte byte =
    ((byte == underscore || (nat_le plus byte && nat_le byte 57)) || (nat_le 64 byte && nat_le byte 90)) || (nat_le 97 byte && nat_le byte 122)

-- the name of a keyboard's layout, or nothing
abbrev pub is_layout : Text → Bool
is_layout value = list_all is_layout_byte value

-- a byte of resolutions: `400@125 *800@125`
abbrev pub is_resolution_byte : ℕ → Bool
is_resolution_byte byte = ((is_digit byte || byte == space) || byte == star) || byte == 64

-- resolutions, of which at most one has a star
abbrev pub are_resolutions : Text → Bool
are_resolutions value = (not (is_empty value) && list_all is_resolution_byte value) && nat_le (count_by (λ b. b == star) value) 1

-- a byte of a matrix: `0, -1, 0; -1, 0, 0; 0, 0, 1`
abbrev pub is_matrix_byte : ℕ → Bool
is_matrix_byte byte = (((((is_digit byte || is_blank byte) || byte == plus) || byte == minus) || byte == dot) || byte == comma) || byte == 59

-- three rows of three numbers, with `;` between rows and `,` between numbers
abbrev pub is_matrix : Text → Bool
is_matrix value = (list_all is_matrix_byte value && count_by (λ b. b == 59) value == 2) && count_by (λ b. b == comma) value == 6

-- a byte of an axis: `0:1023:12:8`
abbrev pub is_axis_byte : ℕ → Bool
is_axis_byte byte = (is_digit byte || byte == minus) || byte == colon

-- the least and the greatest value of an axis, its resolution, its fuzz and its flat, of which each may be missing
abbrev pub is_axis : Text → Bool
is_axis value = list_all is_axis_byte value && nat_le (count_by (λ b. b == colon) value) 4

-- what can name a key, which the kernel's names do in small letters
abbrev pub is_key_name : Text → Bool
is_key_name text = list_all (λ b. (is_digit b || (nat_le 97 b && nat_le b 122)) || b == underscore) text

-- the name of a key, perhaps behind a `!`, or a `!` alone
abbrev pub is_key : Text → Bool
is_key value = not (is_empty value) && is_key_name (without (codes "!") value)

-- whether a property of this name takes a value, by the words that some properties take
abbrev pub word_among : List (Text × List Text) → Text → Text → Bool
word_among [] name value = true
word_among (choice ∷ known) name value = if same_text name choice.0 then is_among choice.1 value else word_among known name value

-- the same by what follows `KEYBOARD_KEY_` in the name, or else `EVDEV_ABS_`
abbrev pub takes_coded : Option Text → Option Text → Text → Text → Bool
takes_coded (Some code) axis name value = is_key value
takes_coded None (Some axis) name value = is_axis value
takes_coded None None name value = word_among choices name value

-- the same for a property with a form of its own
abbrev pub takes_own : Text → Text → Bool
takes_own name value =
    if same_text name (codes "MOUSE_DPI") then are_resolutions value
    else if same_text name (codes "ACCEL_MOUNT_MATRIX") then is_matrix value
    else takes_coded (following (codes "KEYBOARD_KEY_") name) (following (codes "EVDEV_ABS_") name) name value

-- whether a property takes a value
abbrev pub takes : Text → Text → Bool
takes name value =
    if is_among flags name then is_flag value
    else if is_among input_flags name then is_empty value || is_flag value
    else if is_among numbers name then is_integer value
    else if is_among layouts name then is_layout value
    else takes_own name value
