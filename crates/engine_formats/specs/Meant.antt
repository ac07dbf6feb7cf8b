-- Which known name an unknown one may have been meant as.
use Rattle.std.specs.Prelude.{Bool, false, not, ◌&&◌, ◌==◌, if◌then◌else◌, List, [], ◌∷◌, Option, Some, None, codes, filter, map, nat_eq, take}
use Rattle.std.specs.Char.{is_ascii_alphabetic}
use Rattle.std.specs.List.{list_any, prefix_len, starts_with}
use Rattle.text_bytes.specs.Names.{dollar, equals}
use Rattle.text_bytes.specs.Texts.{split_once, word_of}
use Rattle.text_bytes.specs.Text.{Text}
use Rattle.text_tables.specs.Texts.{is_among}
use Rattle.file_messages.specs.declared.message.MessageKind.{MessageKind}
use Rattle.file_messages.specs.declared.message.MessageKind.TheVariants.{UnknownKey, BadValue, BadSubstitution, UnknownBuiltin, BadAttributeSubstitution}
use Rattle.rule_tokens.specs.Names.{long_names}
use Rattle.rule_types.specs.Builtins.{builtin_name, builtins, first_word}
use Rattle.rule_types.specs.Names.{key_name, keys}
use Rattle.engine_formats.specs.Near.{nearest}
use Rattle.file_catalogue.specs.declared.remark.Remark.{Remark}
use Rattle.file_catalogue.specs.declared.remark.Remark.TheVariants.{Message}

-- the names of options of OPTIONS, each without its value
abbrev pub option_names : List Text
option_names =
    codes "link_priority" ∷ codes "string_escape" ∷ codes "static_node" ∷ codes "watch" ∷ codes "nowatch"
    ∷ codes "db_persist" ∷ codes "log_level" ∷ []

-- the names after a `$`
abbrev pub sign_names : List Text
sign_names = map (λ row. row.0) long_names

-- the names after a `$` that are not to be written: those of old versions of udev, and the sign itself
abbrev pub left_out : List Text
left_out = codes "sysfs" ∷ codes "tempnode" ∷ codes "$" ∷ []

-- the names after a `$` that are to be written
abbrev pub written_names : List Text
written_names = filter (λ name. not (is_among left_out name)) sign_names

-- the names of which the word of a message should have one; none if it is not about a name
abbrev pub names_for : MessageKind → List Text
names_for UnknownKey = map key_name keys
names_for UnknownBuiltin = map builtin_name builtins
names_for BadValue = option_names
names_for BadSubstitution = written_names
names_for BadAttributeSubstitution = written_names
names_for _ = []

-- the option that a value names: what comes before `=`, or all of it
abbrev pub option_in : Option (Text × Text) → Text → Text
option_in (Some parts) value = parts.0
option_in None value = value

-- the letters that a text begins with
abbrev pub letters : Text → Text
letters text = take (prefix_len is_ascii_alphabetic text) text

-- whether a known name after a `$` begins a text
abbrev pub has_name : Text → Bool
has_name text = list_any (λ name. starts_with nat_eq text name) sign_names

-- The letters after the first `$` that no known name follows; none if there is no such sign. The flag says whether such
-- a sign comes before the text; `$$` is one sign, which stands for itself.
unfoldable pub unknown_after : Bool → Text → Text
unknown_after sign [] = []
unknown_after sign (b ∷ t) = if sign && not (has_name (b ∷ t)) then letters (b ∷ t) else unknown_after (not sign && (b == dollar)) t

-- the part of the word of a message that should be a name
abbrev pub name_in : MessageKind → Text → Text
name_in UnknownBuiltin word = first_word word
name_in BadValue word = option_in (split_once equals word) word
name_in BadSubstitution word = unknown_after false word
name_in BadAttributeSubstitution word = unknown_after false word
name_in _ word = word

-- the known name that the word of a remark may have been meant as, if there is one; 32 bytes are more than any name has
abbrev pub meant_as : Remark → Text → Option Text
meant_as (Message kind) word = nearest (names_for kind) (word_of (name_in kind word))
meant_as _ word = None
