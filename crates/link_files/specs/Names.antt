-- Which texts may be the name of an interface, and which may be that of a property.
use Rattle.std.specs.Prelude.{ℕ, ◌==◌, ◌||◌, ◌&&◌, not, nat_le, nat_lt, Bool, length, map}
use Rattle.std.specs.List.{list_all}
use Rattle.text_bytes.specs.Names.{colon, percent, slash}
use Rattle.text_bytes.specs.Numbers.{is_digit}
use Rattle.text_bytes.specs.Texts.{is_empty}
use Rattle.text_bytes.specs.Text.{Text}
use Rattle.text_tables.specs.Texts.{is_among}
use Rattle.link_files.specs.declared.names.TheConstants.{RESERVED}

-- whether a byte may be in a name of an interface: of ASCII, no blank and no control, and none of `:/%`
abbrev pub is_name_byte : ℕ → Bool
is_name_byte b = nat_lt 32 b && (nat_lt b 127 && not (b == colon || (b == slash || b == percent)))

-- whether a text may be the name of an interface: 1 to 15 such bytes, not all digits, and not reserved
unfoldable pub is_interface_name : Text → Bool
is_interface_name text =
    not (is_empty text) && nat_le (length text) 15 && list_all is_name_byte text && not (list_all is_digit text)
    && not (is_among (map (λ name. name.now) RESERVED) text)
