-- W18: names in braces that are not known, and near one that is.
use Rattle.std.specs.Prelude.{Bool, false, not, ◌&&◌, ◌||◌, ◌==◌, nat_eq, nat_le, if◌then◌else◌, List, [], ◌∷◌, drop, find, length, Option, Some, None, codes}
use Rattle.std.specs.List.{prefix_len, starts_with, zip}
use Rattle.std.specs.Option.{option_and_then}
use Rattle.text_bytes.specs.Texts.{begins_with, is_empty}
use Rattle.text_bytes.specs.Text.{Text}
use Rattle.text_tables.specs.Texts.{is_among, same_text}
use Rattle.rule_tokens.specs.Grammar.{Placed}
use Rattle.rule_lints.specs.Kernel.{is_other_case}
use Rattle.rule_lints.specs.Tables.{attribute_names, property_names, usb_names}

-- whether two texts that begin with different bytes are the same but for these two neighbours
abbrev pub is_swapped : Text → Text → Bool
is_swapped [] text = false
is_swapped (a ∷ name) [] = false
is_swapped (a ∷ name) (b ∷ text) = begins_with b name && (begins_with a text && same_text (drop 1 name) (drop 1 text))

-- whether a byte at the start is replaced, left out or added, or the two there are swapped
abbrev pub differs_at_start : Text → Text → Bool
differs_at_start name text =
    (not (is_empty name) && (same_text (drop 1 name) (drop 1 text) || same_text (drop 1 name) text))
    || ((not (is_empty text) && same_text name (drop 1 text)) || is_swapped name text)

-- whether two texts differ in one byte, which is replaced, left out or added, or in two neighbours that are swapped: so they do
-- after what both begin with
abbrev pub is_one_off : Text → Text → Bool
is_one_off name text =
    let common = prefix_len (λ pair. pair.0 == pair.1) (zip name text) in
    differs_at_start (drop common name) (drop common text)

-- whether a name is near a known one: its letters are in another case, or it is one off from one that is not short
abbrev pub is_near : Text → Text → Bool
is_near known name = is_other_case known name || (nat_le 8 (length known) && is_one_off known name)

-- the first of these names that a name is near to, if it is none of them
abbrev pub near_one : List Text → Text → Option Text
near_one names name = if is_among names name then None else find (λ known. is_near known name) names

-- what is known instead of the name of an attribute: the key of properties, or a name near to it
abbrev pub known_attribute : Text → Option Text
known_attribute name = if starts_with nat_eq name (codes "ID_") then Some (codes "ENV") else near_one attribute_names name

-- what is known instead of the name of a property: the key of attributes, or a name near to it
abbrev pub known_property : Text → Option Text
known_property name = if is_among usb_names name then Some (codes "ATTRS") else near_one property_names name

-- the keys with names of attributes
abbrev pub attribute_keys : List Text
attribute_keys = codes "ATTR" ∷ codes "ATTRS" ∷ []

-- what is known instead of a name in the braces of a key
abbrev pub known_for : Text → Text → Option Text
known_for key name =
    if is_among attribute_keys key then known_attribute name
    else (if same_text key (codes "ENV") then known_property name else None)

-- the text with which W18 is reported: what is known instead of the name in a token's braces
abbrev pub known_instead : Placed → Option Text
known_instead t = option_and_then (known_for t.parts.head.key) t.parts.head.attribute
