-- What a client can do, as it says when it begins.
use Rattle.std.specs.Prelude.{Bool, false, ◌||◌, Option, codes, option_and_then}
use Rattle.std.specs.Option.{option_map_or}
use Rattle.std.specs.Str.{bytes_eq}
use Rattle.text_bytes.specs.Text.{Text}
use Rattle.json.specs.Json.{Json, Items, no_items, item}
use Rattle.json.specs.Find.{as_array, as_str, get}

-- whether one of the items is this string
abbrev pub has_string : Text → Items → Bool
has_string text no_items = false
has_string text (item value values) = option_map_or (λ said. bytes_eq said text) (as_str value) false || has_string text values

-- what a client says about the ways in which it can count
abbrev pub encodings_of : Json → Option Json
encodings_of params =
    option_and_then (get (codes "positionEncodings")) (option_and_then (get (codes "general")) (get (codes "capabilities") params))

-- whether a client can count in bytes of UTF-8
unfoldable pub offers_utf8 : Json → Bool
offers_utf8 params = option_map_or (has_string (codes "utf-8")) (option_and_then as_array (encodings_of params)) false
