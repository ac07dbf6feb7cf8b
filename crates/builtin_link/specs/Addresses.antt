-- Addresses of hardware, and lists of them.
use Rattle.std.specs.Prelude.{ℕ, Bool, false, List, Option, Some, None, is_some}
use Rattle.std.specs.List.{list_all, list_any}
use Rattle.std.specs.Option.{option_map_or, option_or}
use Rattle.text_bytes.specs.Names.{colon, dot, minus}
use Rattle.text_bytes.specs.Text.{Text}
use Rattle.text_tables.specs.Texts.{same_text}
use Rattle.builtin_devices.specs.Fields.{marked_digits}

-- the digits of so many bytes: fields of one or two digits with `:` or with `-` in between, or half as many of one to
-- four digits with `.`
unfoldable pub bytes_digits : (bytes half : ℕ) → Text → Option Text
bytes_digits bytes half text = option_or (marked_digits colon bytes 2 text) (option_or (marked_digits minus bytes 2 text) (marked_digits dot half 4 text))

-- the digits of an address of six bytes, or of the twenty of InfiniBand
unfoldable pub hardware_digits : Text → Option Text
hardware_digits text = option_or (bytes_digits 6 3 text) (bytes_digits 20 10 text)

-- whether a word is an address with these digits
abbrev pub is_address : (digits : Option Text) → (word : Text) → Bool
is_address None word = false
is_address (Some digits) word = option_map_or (same_text digits) (hardware_digits word) false

-- whether one of these words is the address that a text is
unfoldable pub has_address : List Text → (text : Text) → Bool
has_address words text = list_any (is_address (hardware_digits text)) words

-- whether each word is such an address; the addresses of tunnels are not among them
unfoldable pub are_addresses : List Text → Bool
are_addresses words = list_all (λ word. is_some (hardware_digits word)) words
