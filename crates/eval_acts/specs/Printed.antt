-- The properties that an IMPORT{program} of udev's takes from what a program printed, one for each line.
use Rattle.std.specs.Prelude.{ℕ, ◌-◌, ◌||◌, if◌then◌else◌, List, [], ◌∷◌, length, take, filter_map, Option, Some, None, option_map}
use Rattle.std.specs.List.{slice_split, suffix_len}
use Rattle.std.specs.Option.{option_and_then}
use Rattle.text_bytes.specs.Names.{equals, hash, is_blank}
use Rattle.text_bytes.specs.Texts.{begins_with, ends_in, is_empty, split_once, unindented}
use Rattle.text_bytes.specs.Text.{Text}
use Rattle.text_tables.specs.Pairs.{Pair}
use Rattle.eval_commands.specs.Words.{is_quote}
use Rattle.eval_rendering.specs.Pieces.{ends_line}

-- a text without the blanks at its end
abbrev pub unspaced : Text → Text
unspaced text = take (length text - suffix_len is_blank text) text

-- a text without the blanks at its start and at its end
abbrev pub bare : Text → Text
bare text = unspaced (unindented text)

-- what comes before the last byte of a text, if that byte is this one
abbrev pub before_end : ℕ → Text → Option Text
before_end byte text = if ends_in byte text then Some (take (length text - 1) text) else None

-- a value without the quotes around it; nothing if it begins with a quote and does not end with the same one after it
abbrev pub unquoted : Text → Option Text
unquoted [] = Some []
unquoted (b ∷ text) = if is_quote b then before_end b text else Some (b ∷ text)

-- the property of a name and a value: nothing if one of them is empty, or if a quote stays open
abbrev pub property_of : (name value : Text) → Option Pair
property_of name value = if is_empty name || is_empty value then None else option_map (λ text. (name, text)) (unquoted value)

-- the property of what comes before the first `=` of a line and what comes after it, each without the blanks at its ends
abbrev pub property_cut : Text × Text → Option Pair
property_cut cut = property_of (bare cut.0) (bare cut.1)

-- the property that a line gives: a comment gives none, and neither does a line without `=`
unfoldable pub line_property : Text → Option Pair
line_property line = if begins_with hash (unindented line) then None else option_and_then property_cut (split_once equals line)

-- the properties that a printed text gives, in the order of its lines
unfoldable pub printed_properties : Text → List Pair
printed_properties text = filter_map line_property (slice_split ends_line text)
