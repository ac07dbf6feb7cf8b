-- States laws: which lines of a file are matches and properties, and where a record ends.
use Rattle.std.specs.Prelude.{Bool, false, not, ◌&&◌, ◌||◌, [], Option}
use Rattle.std.specs.Option.{option_map_or}
use Rattle.text_bytes.specs.Lines.{NumberedLine}
use Rattle.text_bytes.specs.Names.{hash, space}
use Rattle.text_bytes.specs.Texts.{begins_with, is_empty, trimmed, unindented, up_to}
use Rattle.text_bytes.specs.Text.{Text}
use Rattle.text_tables.specs.Texts.{same_text}
use Rattle.hwdb_core.specs.Lints.{Before, pair_in}

-- nothing comes before a line
abbrev pub nothing : Before
nothing = record { matches = []; keys = [] }

-- a line without its comment and the blanks at its end
abbrev pub clean : NumberedLine → Text
clean l = trimmed (up_to hash l.text)

-- whether a line is a comment
abbrev pub is_comment : NumberedLine → Bool
is_comment l = begins_with hash l.text

-- whether a line is this match
abbrev pub is_match : Text → NumberedLine → Bool
is_match text l = not (is_comment l) && (not (is_empty (clean l)) && (not (begins_with space (clean l)) && same_text text (clean l)))

-- whether a key and a value have this key
abbrev pub has_key : Text → Option (Text × Text) → Bool
has_key key found = option_map_or (λ pair. same_text key pair.0) found false

-- whether a line that is no match is a property with this key
abbrev pub is_property : Text → NumberedLine → Bool
is_property key l = not (is_comment l) && has_key key (pair_in (unindented (clean l)))

-- whether a line ends the record before it: it is empty, or a match
abbrev pub ends_record : NumberedLine → Bool
ends_record l = not (is_comment l) && (is_empty (clean l) || not (begins_with space (clean l)))
