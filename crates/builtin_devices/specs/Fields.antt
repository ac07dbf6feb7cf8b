-- The digits of addresses, field by field.
use Rattle.std.specs.Prelude.{ℕ, ◌-◌, ◌==◌, ◌&&◌, not, nat_le, Bool, List, ◌++◌, length, map, flat_map, replicate, Option, Some, None}
use Rattle.std.specs.Prelude.{if◌then◌else◌}
use Rattle.std.specs.Char.{is_ascii_hexdigit, to_ascii_lowercase}
use Rattle.std.specs.List.{list_all, slice_split}
use Rattle.text_bytes.specs.Names.{digit_zero}
use Rattle.text_bytes.specs.Texts.{is_empty}
use Rattle.text_bytes.specs.Text.{Text}

-- whether a text is one hexadecimal digit or more, and at most so many
unfoldable pub is_field : ℕ → Text → Bool
is_field width text = not (is_empty text) && nat_le (length text) width && list_all is_ascii_hexdigit text

-- a field in so many lower case digits, with zeros before it
unfoldable pub field_digits : ℕ → Text → Text
field_digits width text = replicate (width - length text) digit_zero ++ map to_ascii_lowercase text

-- whether there are so many texts, each a field
unfoldable pub are_fields : (count width : ℕ) → List Text → Bool
are_fields count width texts = length texts == count && list_all (is_field width) texts

-- the digits of fields with a mark in between
abbrev pub digits_of : (count width : ℕ) → List Text → Option Text
digits_of count width texts = if are_fields count width texts then Some (flat_map (field_digits width) texts) else None

-- the same for the fields of a text with a mark in between
unfoldable pub marked_digits : (mark count width : ℕ) → Text → Option Text
marked_digits mark count width text = digits_of count width (slice_split (λ b. b == mark) text)
