-- How udev of systemd 257 compares, where this differs from the manual.
use Rattle.std.specs.Prelude.{◌-◌, Bool, false, not, ◌||◌, if◌then◌else◌, List, length, map, take, slice_get, Option, Some, None, codes}
use Rattle.std.specs.Char.{to_ascii_lowercase}
use Rattle.std.specs.List.{prefix_len, suffix_len, list_any}
use Rattle.text_bytes.specs.Names.{is_whitespace}
use Rattle.text_bytes.specs.Texts.{skip_while}
use Rattle.text_bytes.specs.Text.{Text}
use Rattle.text_tables.specs.Texts.{same_text}
use Rattle.text_core.specs.Choices.{choice_fits, is_bar}
use Rattle.rule_tokens.specs.Integers.{is_separator}
use Rattle.rule_types.specs.declared.part.Comparison.{Comparison}
use Rattle.eval_rendering.specs.Bounds.{most_value_bytes}

-- whether there is an element, and it passes
abbrev pub passes : {A : Type 0} → (A → Bool) → Option A → Bool
passes test None = false
passes test (Some x) = test x

-- whether a list has a last element, and it passes
abbrev pub last_is : {A : Type 0} → (A → Bool) → List A → Bool
last_is test xs = passes test (slice_get xs (length xs - 1))

-- whether a value is one of the three words each of which udev takes for all three
abbrev pub means_each : Text → Bool
means_each value = same_text value (codes "subsystem") || (same_text value (codes "bus") || same_text value (codes "class"))

-- a text as it is compared with a word of lower case letters, by whether case is ignored
abbrev pub as_spelled : Bool → Text → Text
as_spelled blind text = if blind then map to_ascii_lowercase text else text

-- whether a subsystem fits: `subsystem`, `bus` and `class`, each alone in a value, fit each of the three
abbrev pub subsystem_fits : Comparison → Text → Bool
subsystem_fits wanted text =
    if means_each wanted.written then means_each (as_spelled wanted.blind text) else choice_fits wanted.choice text

-- whether texts fit, of which there may be none: `?*` fits whatever they are, as it asks that no text is empty
abbrev pub members_fit : Comparison → List Text → Bool
members_fit wanted texts = same_text wanted.written (codes "?*") || list_any (choice_fits wanted.choice) texts

-- the first of the texts between bars that is not empty; the empty text if there is none
abbrev pub first_part : Text → Text
first_part value = let following = skip_while is_bar value in take (prefix_len (λ b. not (is_bar b)) following) following

-- whether an attribute is compared without the white space at its end: the first of the texts between bars that is not empty has none at its own
abbrev pub trims : Text → Bool
trims value = last_is (λ b. not (is_whitespace b)) (first_part value)

-- the first bytes of an attribute, as many as are compared if it is compared without its end
abbrev pub capped : Text → Text
capped text = take most_value_bytes text

-- a text without the spaces, tabs and ends of lines at its end
abbrev pub without_end : Text → Text
without_end text = take (length text - suffix_len is_separator text) text

-- an attribute as it is compared with a value
abbrev pub compared_with : Text → Text → Text
compared_with value text = if trims value then without_end (capped text) else text
