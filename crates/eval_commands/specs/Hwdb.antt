-- The words after `hwdb`.
use Rattle.std.specs.Prelude.{Bool, not, nat_lt, ◌&&◌, ◌||◌, if◌then◌else◌, List, [], ◌∷◌, filter, length, Option, Some, None, is_none, is_some, codes}
use Rattle.std.specs.Option.{option_and_then, option_or, unwrap_or}
use Rattle.std.specs.List.{list_any}
use Rattle.std.specs.Result.{result_ok}
use Rattle.text_bytes.specs.Names.{minus, equals}
use Rattle.text_bytes.specs.Texts.{begins_with, first, split_once}
use Rattle.text_bytes.specs.Text.{Text}
use Rattle.text_tables.specs.Texts.{same_text}
use Rattle.text_core.specs.Spell.{spell}
use Rattle.text_core.specs.declared.item.Item.{Item}
use Rattle.eval_commands.specs.declared.hwdb.Hwdb.{Hwdb}

-- what follows the `=` of an option, if it is the one with this name
abbrev pub value_beside : Text → Text × Text → Option Text
value_beside name cut = if same_text cut.0 name then Some cut.1 else None

-- the value that a word gives an option
abbrev pub value_in : Text → Text → Option Text
value_in name word = option_and_then (value_beside name) (split_once equals word)

-- the value that words give an option: the last one counts
abbrev pub last_value : Text → List Text → Option Text
last_value name [] = None
last_value name (word ∷ words) = option_or (last_value name words) (value_in name word)

-- the option that names the subsystem of the devices to look at
abbrev pub subsystem_option : Text
subsystem_option = codes "--subsystem"

-- the option whose text comes before each modalias
abbrev pub prefix_option : Text
prefix_option = codes "--lookup-prefix"

-- the option for the keys that count
abbrev pub filter_option : Text
filter_option = codes "--filter"

-- a word that begins with `-` is meant as an option
abbrev pub is_option : Text → Bool
is_option word = begins_with minus word

-- whether a word is an unknown option: none of the three
abbrev pub is_unknown : Text → Bool
is_unknown word =
    is_option word && not (is_some (value_in subsystem_option word) || is_some (value_in prefix_option word) || is_some (value_in filter_option word))

-- the words that are not options
abbrev pub operands : List Text → List Text
operands words = filter (λ word. not (is_option word)) words

-- the pattern that a text spells, if it spells one
abbrev pub pattern_of : Text → Option (List Item)
pattern_of text = result_ok (spell text)

-- whether a filter is given that is not a pattern
abbrev pub is_bad_filter : Option Text → Bool
is_bad_filter filter = is_some filter && is_none (option_and_then pattern_of filter)

-- whether words are not valid: one of them is an unknown option, there are two modaliases, or the last filter is not a
-- pattern
abbrev pub is_bad : List Text → Bool
is_bad words = list_any is_unknown words || nat_lt 1 (length (operands words)) || is_bad_filter (last_value filter_option words)

-- what the words after `hwdb` ask for, if they are valid
unfoldable pub hwdb_of : List Text → Option Hwdb
hwdb_of words = if is_bad words then None else Some (record {
  subsystem = last_value subsystem_option words;
  prefix = unwrap_or (last_value prefix_option words) [];
  filter = option_and_then pattern_of (last_value filter_option words);
  modalias = first (operands words);
})
