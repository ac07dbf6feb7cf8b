-- The words that a file of options may have.
use Rattle.std.specs.Prelude.{◌||◌, ◌&&◌, ◌∷◌, Bool, false, not, [], Option}
use Rattle.std.specs.List.{list_any}
use Rattle.std.specs.Option.{option_map_or}
use Rattle.std.specs.Str.{is_utf8}
use Rattle.text_bytes.specs.Escapes.{is_control}
use Rattle.text_bytes.specs.Names.{equals, minus}
use Rattle.text_bytes.specs.Texts.{following, split_once}
use Rattle.text_bytes.specs.Text.{Text}
use Rattle.text_tables.specs.Texts.{same_text}
use Rattle.engine_sessions.specs.Names.{flag_names, repeated_names, valued_names}

-- what follows the two minus signs that a word begins with
abbrev pub after_dashes : Text → Option Text
after_dashes word = following (minus ∷ minus ∷ []) word

-- a word is the flag of this name: `--NAME`
abbrev pub is_flag : (word name : Text) → Bool
is_flag word name = option_map_or (λ rest. same_text rest name) (after_dashes word) false

-- what follows the minus signs is the name, a sign `=`, and a value, which may be empty
abbrev pub is_name_with_value : (rest name : Text) → Bool
is_name_with_value rest name = option_map_or (λ parts. same_text parts.0 name) (split_once equals rest) false

-- a word gives the option of this name a value: `--NAME=VALUE`
abbrev pub has_value_of : (word name : Text) → Bool
has_value_of word name = option_map_or (λ rest. is_name_with_value rest name) (after_dashes word) false

-- a word is a flag, or gives an option with a value one
abbrev pub is_option : Text → Bool
is_option word = list_any (is_flag word) flag_names
    || (list_any (has_value_of word) valued_names || list_any (has_value_of word) repeated_names)

-- a word that a file may have: an option, in UTF-8 and without control characters
unfoldable pub is_word : Text → Bool
is_word word = is_option word && (is_utf8 word && not (list_any is_control word))
