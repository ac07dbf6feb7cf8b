-- The values that .link files give a key.
use Rattle.std.specs.Prelude.{ℕ, ◌==◌, ◌||◌, ◌&&◌, not, Bool, true, false, List, [], ◌∷◌, ◌++◌, codes, drop, filter, fold, map, take, if◌then◌else◌}
use Rattle.std.specs.Char.{is_ascii_alphanumeric}
use Rattle.std.specs.List.{list_all}
use Rattle.std.specs.Option.{option_map_or}
use Rattle.text_bytes.specs.Names.{bang, equals, underscore}
use Rattle.text_bytes.specs.Numbers.{is_digit}
use Rattle.text_bytes.specs.Texts.{begins_with, is_empty, split_once}
use Rattle.text_bytes.specs.Text.{Text}
use Rattle.text_tables.specs.Texts.{same_text}
use Rattle.link_files.specs.Names.{is_interface_name}
use Rattle.link_files.specs.Words.{is_whole, words_of}
use Rattle.link_files.specs.declared.settings.Setting.{Setting}
use Rattle.link_files.specs.declared.words.WordKind.{WordKind}
use Rattle.link_files.specs.declared.words.WordKind.TheVariants.{Name, Plain, Property}

-- the section that says for which interfaces a file is
abbrev pub match_section : Text
match_section = codes "Match"

-- the section that says what becomes of them
abbrev pub link_section : Text
link_section = codes "Link"

-- whether a setting is of a section and a key
abbrev pub is_of : (section key : Text) → Setting → Bool
is_of section key setting = same_text setting.section section && same_text setting.key key

-- whether a byte may be in the name of a property
abbrev pub is_property_byte : ℕ → Bool
is_property_byte b = is_ascii_alphanumeric b || b == underscore

-- whether a text may be the name of a property: letters, digits and `_`, no digit first
abbrev pub is_property_name : Text → Bool
is_property_name name = not (is_empty name) && list_all is_property_byte name && not (list_all is_digit (take 1 name))

-- whether a word is the name of a property and a value
abbrev pub is_property : Text → Bool
is_property word = option_map_or (λ parts. is_property_name parts.0) (split_once equals word) false

-- whether a word counts among those of its kind
abbrev pub counts : WordKind → Text → Bool
counts Name word = is_interface_name word
counts Property word = is_property word
counts kind word = true

-- whether the words of a value are negated, by a `!` at its start
abbrev pub is_negated : WordKind → Text → Bool
is_negated Plain value = false
is_negated kind value = begins_with bang value

-- a value without the sign before all its words
abbrev pub unsigned : WordKind → Text → Text
unsigned kind value = if is_negated kind value then drop 1 value else value

-- a word with its sign
abbrev pub signed : Bool → Text → Text
signed negated word = if negated then bang ∷ word else word

-- the words of a value that count, each with its sign
unfoldable pub texts_of : WordKind → (value : Text) → List Text
texts_of kind value = map (signed (is_negated kind value)) (filter (counts kind) (words_of kind (unsigned kind value)))

-- whether a value is a list of words that count, all of them
unfoldable pub is_list : WordKind → (value : Text) → Bool
is_list kind value = is_whole kind (unsigned kind value) && list_all (counts kind) (words_of kind (unsigned kind value))

-- what one more setting makes of the words for a key of [Match]: an empty value drops those so far
unfoldable pub with_texts_of : WordKind → (key : Text) → List Text → Setting → List Text
with_texts_of kind key held setting =
    if not (is_of match_section key setting) then held
    else if is_empty setting.value then []
    else held ++ texts_of kind setting.value

-- the words that are given for a key of [Match]
unfoldable pub list_of : WordKind → (key : Text) → List Setting → List Text
list_of kind key settings = fold (with_texts_of kind key) [] settings

-- the value that is given last for a key; empty if none is
unfoldable pub last_of : (section key : Text) → List Setting → Text
last_of section key settings = fold (λ held setting. if is_of section key setting then setting.value else held) [] settings
