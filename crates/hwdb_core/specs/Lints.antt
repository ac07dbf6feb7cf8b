-- The lints of a database file.
use Rattle.std.specs.Prelude.{ℕ, ◌-◌, Bool, not, if◌then◌else◌, List, [], ◌∷◌, ◌++◌, length, Option, Some, None}
use Rattle.text_bytes.specs.Lines.{NumberedLine, numbered_lines}
use Rattle.text_bytes.specs.Names.{equals, hash, space}
use Rattle.text_bytes.specs.Texts.{begins_with, is_empty, split_once, trimmed, unindented, up_to}
use Rattle.text_bytes.specs.Text.{Text}
use Rattle.text_tables.specs.Texts.{is_among, with_text}
use Rattle.hwdb_core.specs.Forms.{match_fault}
use Rattle.hwdb_core.specs.Names.{is_name}
use Rattle.hwdb_core.specs.Placed.{placed, reported, reported_if, suffix_reported}
use Rattle.hwdb_core.specs.Values.{takes}
use Rattle.hwdb_core.specs.Written.{after_mark, cut_word, ends_in_blank, is_blank_beside, open_set}
use Rattle.hwdb_core.specs.declared.lint.DatabaseLint.TheVariants as lint
use Rattle.hwdb_core.specs.declared.placed_lint.PlacedLint.{PlacedLint}

-- the lints of a match that begins with no byte order mark, by its line, its clean text and whether the file has that
-- match already
abbrev pub unmarked_lints : NumberedLine → Text → Bool → List PlacedLint
unmarked_lints l text known =
    reported l.number text (match_fault text)
    ++ reported_if known (placed l.number lint.MatchTwice 0 text)
    ++ reported_if (ends_in_blank l.text) (placed l.number lint.BlankAtEnd 0 text)
    ++ suffix_reported l.number lint.CutWord l.text (cut_word l.text)
    ++ suffix_reported l.number lint.OpenSet text (open_set text)

-- the lints of a match by what follows its byte order mark, which is all that is reported if it has one
abbrev pub lints_by_mark : NumberedLine → Text → Bool → Option Text → List PlacedLint
lints_by_mark l text known (Some rest) = placed l.number lint.ByteOrderMark 3 rest ∷ []
lints_by_mark l text known None = unmarked_lints l text known

-- the lints of a match
abbrev pub match_lints : NumberedLine → Text → Bool → List PlacedLint
match_lints l text known = lints_by_mark l text known (after_mark text)

-- The lints of a property, by its line, how many bytes come before it, its clean text, its key and value, and whether
-- the record has that key already.
abbrev pub property_lints : NumberedLine → ℕ → Text → Text × Text → Bool → List PlacedLint
property_lints l start text pair known =
    reported_if known (placed l.number lint.PropertyTwice start pair.0)
    ++ reported_if (is_blank_beside pair.0 pair.1) (placed l.number lint.BlankAtEquals start text)
    ++ reported_if (not (is_name (trimmed pair.0))) (placed l.number lint.OddName start pair.0)
    ++ suffix_reported l.number lint.CutWord l.text (cut_word l.text)
    ++ reported_if (not (takes (trimmed pair.0) (unindented pair.1))) (placed l.number lint.WrongValue start text)

-- the key and the value of a property, if it has both
abbrev pub keyed : Option (Text × Text) → Option (Text × Text)
keyed None = None
keyed (Some pair) = if is_empty pair.0 then None else Some pair

-- the key and the value that a text has before and after its first `=`, if the key is not empty
abbrev pub pair_in : Text → Option (Text × Text)
pair_in text = keyed (split_once equals text)

-- what comes before a line: the matches of its file, each once, and the keys of its record
pub record Before : Type 0 where
  pub matches : List Text
  pub keys : List Text

-- the lints of a line that begins with a space, by its clean text and its key and value
abbrev pub indented_lints : Before → NumberedLine → Text → Option (Text × Text) → List PlacedLint
indented_lints before l clean None = []
indented_lints before l clean (Some pair) =
    property_lints l (length clean - length (unindented clean)) (unindented clean) pair (is_among before.keys pair.0)

-- the lints of a line that is no comment, by its clean text
abbrev pub clean_lints : Before → NumberedLine → Text → List PlacedLint
clean_lints before l clean =
    if is_empty clean then []
    else if begins_with space clean then indented_lints before l clean (pair_in (unindented clean))
    else match_lints l clean (is_among before.matches clean)

-- the lints of a line
abbrev pub line_lints : Before → NumberedLine → List PlacedLint
line_lints before l = if begins_with hash l.text then [] else clean_lints before l (trimmed (up_to hash l.text))

-- what comes before the line after a property
abbrev pub after_pair : Before → Option (Text × Text) → Before
after_pair before None = before
after_pair before (Some pair) = record { matches = before.matches; keys = with_text before.keys pair.0 }

-- what comes before the line after one that is no comment: an empty line and a match begin a new record
abbrev pub after_clean : Before → Text → Before
after_clean before clean =
    if is_empty clean then record { matches = before.matches; keys = [] }
    else if begins_with space clean then after_pair before (pair_in (unindented clean))
    else record { matches = with_text before.matches clean; keys = [] }

-- what comes before the line after this one
abbrev pub after_line : Before → NumberedLine → Before
after_line before l = if begins_with hash l.text then before else after_clean before (trimmed (up_to hash l.text))

-- the lints of lines, by what comes before the first
abbrev pub lints_from : Before → List NumberedLine → List PlacedLint
lints_from before [] = []
lints_from before (l ∷ ls) = line_lints before l ++ lints_from (after_line before l) ls

-- the lints of a file, by line, and those of one line by code
unfoldable pub database_lints : Text → List PlacedLint
database_lints bytes = lints_from (record { matches = []; keys = [] }) (numbered_lines bytes)
