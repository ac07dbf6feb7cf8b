-- Which texts pass a list of patterns, some of them negated.
use Rattle.std.specs.Prelude.{◌&&◌, ◌||◌, not, Bool, true, false, List, [], ◌∷◌, drop, Option, Some, None, if◌then◌else◌}
use Rattle.std.specs.List.{list_all, list_any}
use Rattle.std.specs.Option.{option_map_or}
use Rattle.text_bytes.specs.Names.{bang, equals}
use Rattle.text_bytes.specs.Texts.{begins_with, split_once}
use Rattle.text_core.specs.Fits.{fits}
use Rattle.text_core.specs.Fnmatch.{fnmatch_items}
use Rattle.text_core.specs.declared.reading.Reading.TheVariants.{Exact}
use Rattle.text_bytes.specs.Text.{Text}
use Rattle.text_tables.specs.Pairs.{Pair, value_of}

-- whether a word is negated
abbrev pub is_signed : Text → Bool
is_signed word = begins_with bang word

-- a word without its sign
abbrev pub without_sign : Text → Text
without_sign word = if is_signed word then drop 1 word else word

-- whether a text fits a pattern of fnmatch(3)
abbrev pub fits_glob : (glob text : Text) → Bool
fits_glob glob text = fits (fnmatch_items Exact glob 0) text

-- whether a text fits one of the negated words, or one of the others
abbrev pub fits_some : (negated : Bool) → List Text → (text : Text) → Bool
fits_some negated [] text = false
fits_some negated (word ∷ words) text = (if is_signed word then negated else not negated) && fits_glob (without_sign word) text || fits_some negated words text

-- whether a word is there that is not negated
abbrev pub has_plain : List Text → Bool
has_plain words = list_any (λ word. not (is_signed word)) words

-- Whether a text passes: it fits no negated word, and one of the others if there are any.
unfoldable pub passes : List Text → (text : Text) → Bool
passes words text = not (fits_some true words text) && (not (has_plain words) || fits_some false words text)

-- the same if there may be no text, which fits no word
abbrev pub passes_if : List Text → Option Text → Bool
passes_if words None = not (has_plain words)
passes_if words (Some text) = passes words text

-- whether a property has a value that fits
abbrev pub has_value : List Pair → Option (Text × Text) → Bool
has_value env None = false
has_value env (Some parts) = option_map_or (fits_glob parts.1) (value_of env parts.0) false

-- whether a word `NAME=VALUE` is true of properties: NAME has a value that fits; with a sign, that it has none
abbrev pub is_true_of : List Pair → Text → Bool
is_true_of env word =
    let found = has_value env (split_once equals (without_sign word)) in
    if is_signed word then not found else found

-- whether all such words are
abbrev pub are_true_of : List Pair → List Text → Bool
are_true_of env words = list_all (is_true_of env) words
