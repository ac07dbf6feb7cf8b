-- W4: a letter has a case in which the kernel does not write it.
use Rattle.std.specs.Prelude.{ℕ, Bool, true, false, not, ◌&&◌, ◌||◌, nat_eq, nat_le, if◌then◌else◌, List, [], ◌∷◌, Option, Some, None, take, drop, length}
use Rattle.std.specs.Prelude.{codes}
use Rattle.std.specs.Cmp.Lexicographic.{pointwise}
use Rattle.std.specs.List.{list_all, list_any, prefix_len, zip}
use Rattle.std.specs.Option.{option_and_then}
use Rattle.text_bytes.specs.Text.{Text}
use Rattle.text_core.specs.declared.item.Item.{Item}
use Rattle.text_core.specs.declared.item.Item.TheVariants.{Byte, Many}
use Rattle.rule_types.specs.declared.part.Comparison.{Comparison}
use Rattle.rule_types.specs.declared.part.Part.{Part}
use Rattle.rule_types.specs.declared.part.Part.TheVariants as part
use Rattle.rule_types.specs.declared.roles.PlainKey.{PlainKey}
use Rattle.rule_types.specs.declared.roles.PlainKey.TheVariants as plain
use Rattle.rule_types.specs.declared.roles.UpKey.{UpKey}
use Rattle.rule_types.specs.declared.roles.UpKey.TheVariants as up
use Rattle.text_tables.specs.Texts.{is_among}
use Rattle.rule_lints.specs.Parts.{comparison_of}
use Rattle.rule_lints.specs.declared.letter_case.Writing.{Writing}
use Rattle.rule_lints.specs.declared.letter_case.Writing.TheVariants.{Lower, Prefixed, Alias}

-- attributes in which the kernel writes hexadecimal digits in lower case letters, the address of a network card among them
abbrev pub lower_names : List Text
lower_names =
    codes "idVendor" ∷ codes "idProduct" ∷ codes "bcdDevice"
    ∷ codes "bDeviceClass" ∷ codes "bDeviceSubClass" ∷ codes "bDeviceProtocol"
    ∷ codes "bInterfaceClass" ∷ codes "bInterfaceSubClass" ∷ codes "bInterfaceProtocol" ∷ codes "bInterfaceNumber" ∷ codes "bNumEndpoints"
    ∷ codes "id/vendor" ∷ codes "id/product" ∷ codes "id/version" ∷ codes "id/bustype"
    ∷ codes "subsystem_vendor" ∷ codes "subsystem_device" ∷ codes "address"
    ∷ []

-- attributes that several subsystems have, and that are such digits if `0x` comes before them
abbrev pub prefixed_names : List Text
prefixed_names = codes "vendor" ∷ codes "device" ∷ codes "class" ∷ []

-- how the kernel writes an attribute, if that is known
abbrev pub writing_named : Text → Option Writing
writing_named name =
    if is_among lower_names name then Some Lower
    else (if is_among prefixed_names name then Some Prefixed
    else (if pointwise nat_eq name (codes "modalias") then Some Alias else None))

-- how the kernel writes what a match of the event looks at
abbrev pub writing_of_plain : PlainKey → Option Writing
writing_of_plain (plain.Attr name) = writing_named name
writing_of_plain (plain.Env name) = if pointwise nat_eq name (codes "MODALIAS") then Some Alias else None
writing_of_plain _ = None

-- how the kernel writes what a match of one device of the chain looks at
abbrev pub writing_of_up : UpKey → Option Writing
writing_of_up (up.Attrs name) = writing_named name
writing_of_up _ = None

-- how the kernel writes what a part looks at
abbrev pub writing_of : Part → Option Writing
writing_of (part.Plain m) = writing_of_plain m.key
writing_of (part.Up m) = writing_of_up m.key
writing_of _ = None

-- whether an item is a byte of this range
abbrev pub is_byte_in : ℕ → ℕ → Item → Bool
is_byte_in first last (Byte b) = nat_le first b && nat_le b last
is_byte_in first last _ = false

-- a letter `A` to `Z`
abbrev pub is_capital : Item → Bool
is_capital item = is_byte_in 65 90 item

-- a letter `a` to `f`
abbrev pub is_small_digit : Item → Bool
is_small_digit item = is_byte_in 97 102 item

-- whether items begin with bytes, one item for each
abbrev pub begin_with : Text → List Item → Bool
begin_with text items = nat_le (length text) (length items) && list_all (λ pair. is_byte_in pair.0 pair.0 pair.1) (zip text items)

-- whether a lower case digit is among so many items after the first so many
abbrev pub has_small_digit : ℕ → ℕ → List Item → Bool
has_small_digit start size items = list_any is_small_digit (take size (drop start items))

-- whether an item takes any bytes
abbrev pub is_many : Item → Bool
is_many Many = true
is_many _ = false

-- the items up to the first that takes any bytes, which stand for the bytes at their places
abbrev pub items_in_place : List Item → List Item
items_in_place items = take (prefix_len (λ item. not (is_many item)) items) items

-- Whether an alias has a lower case digit where the kernel writes capital ones: in the numbers of the vendor and of
-- the product after `usb:v` and `p`, four digits each, and after `pci:v` and `d`, eight digits each.
abbrev pub is_small_alias : List Item → Bool
is_small_alias items =
    (begin_with (codes "usb:v") items && (has_small_digit 5 4 items || has_small_digit 10 4 items))
    || (begin_with (codes "pci:v") items && (has_small_digit 5 8 items || has_small_digit 14 8 items))

-- whether an alternative has a letter that the kernel does not write so
abbrev pub is_miswritten : Writing → List Item → Bool
is_miswritten Lower items = list_any is_capital items
is_miswritten Prefixed items = (begin_with (codes "0x") items || begin_with (codes "0X") items) && list_any is_capital items
is_miswritten Alias items = is_small_alias (items_in_place items)

-- the value of a comparison, if case counts in it and an alternative has such a letter
abbrev pub miswritten : Writing → Comparison → Option Text
miswritten writing wanted = if not wanted.blind && list_any (is_miswritten writing) wanted.choice then Some wanted.written else None

-- the value with which W4 is reported
abbrev pub wrong_case : Part → Option Text
wrong_case p = option_and_then (λ writing. option_and_then (miswritten writing) (comparison_of p)) (writing_of p)
