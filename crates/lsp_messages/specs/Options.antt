-- The options that a client gives when it begins.
use Rattle.std.specs.Prelude.{List, [], ◌∷◌, Option, Some, None, codes, if◌then◌else◌, map, option_and_then, option_map}
use Rattle.std.specs.Option.{option_map_or}
use Rattle.text_bytes.specs.Text.{Text}
use Rattle.json.specs.Json.{Json, Items, no_items, item}
use Rattle.json.specs.Find.{as_array, as_str, get, is_null}
use Rattle.lsp_messages.specs.declared.options.Options.{Options}
use Rattle.lsp_messages.specs.declared.options.Options.TheVariants.{Absent, Words, Malformed}

-- options: none are given, these words are, or something else is
pub data OptionsValue : Type 0 where
  absent : OptionsValue
  words : List Text → OptionsValue
  malformed : OptionsValue

abbrev pub options_shown : Options → OptionsValue
options_shown Absent = absent
options_shown (Words ws) = words (map (λ w. w.now) ws.items)
options_shown Malformed = malformed

-- the strings that items are, if each is one
abbrev pub strings_in : Items → Option (List Text)
strings_in no_items = Some []
strings_in (item value values) = option_and_then (λ text. option_map (λ texts. text ∷ texts) (strings_in values)) (as_str value)

-- what a member `options` is
abbrev pub options_in : Option Json → OptionsValue
options_in None = absent
options_in (Some value) =
    if is_null value then absent else option_map_or words (option_and_then strings_in (as_array value)) malformed

-- the member that has the options
abbrev pub options_given : Json → Option Json
options_given params = option_and_then (get (codes "options")) (get (codes "initializationOptions") params)

-- the options that a client gives
unfoldable pub options_of : Json → OptionsValue
options_of params = options_in (options_given params)
