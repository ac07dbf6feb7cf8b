-- The values of an argument, of the matches of a subcommand.
use Rattle.std.specs.Prelude.{◌==◌, List, [], Bool, length, not, unwrap_or, codes, false}
use Rattle.std.specs.Option.{option_map_or}
use Rattle.std.specs.Str.{bytes_eq}
use Rattle.clap.specs.Words.{Row, Text, all_of, first_of}

-- the value of an argument, empty if it was not given
abbrev pub text_of : Text → List Row → Text
text_of id rows = unwrap_or (first_of id rows) []

-- the values of an argument
abbrev pub texts_of : Text → List Row → List Text
texts_of id rows = unwrap_or (all_of id rows) []

-- the flag was given: its value is `true`
abbrev pub is_set : Text → List Row → Bool
is_set id rows = option_map_or (λ t. bytes_eq t (codes "true")) (first_of id rows) false

-- the argument was given, and its value is empty
abbrev pub is_empty_text : Text → List Row → Bool
is_empty_text id rows = option_map_or (λ t. length t == 0) (first_of id rows) false

-- the argument has a value
abbrev pub has_value : Text → List Row → Bool
has_value id rows = not (length (texts_of id rows) == 0)
