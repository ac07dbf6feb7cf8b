-- Where messages about a database are in their file.
use Rattle.std.specs.Prelude.{ℕ, ◌+◌, ◌-◌, Bool, true, false, if◌then◌else◌, List, [], length, slice_index_or}
use Rattle.text_bytes.specs.Text.{Text}
use Rattle.text_bytes.specs.Lines.{NumberedLine}
use Rattle.text_bytes.specs.Numbers.{capped}
use Rattle.text_bytes.specs.Names.{hash}
use Rattle.text_bytes.specs.Texts.{trimmed, unindented, up_to}
use Rattle.file_messages.specs.declared.message.Message.{Message}
use Rattle.file_messages.specs.declared.message.MessageKind.{MessageKind}
use Rattle.file_messages.specs.declared.message.MessageKind.TheVariants.{PropertyWithoutMatch, NoEquals, EmptyKey}
use Rattle.engine_formats.specs.declared.placing.TextPlace.{TextPlace}

-- a place in a line: the columns that it begins at and ends before, counted from 1, and the text there
pub record Place : Type 0 where
  pub source : Text
  pub column : ℕ
  pub end : ℕ
  pub word : Text

-- what a contract sees of a place
abbrev pub shown_place : TextPlace → Place
shown_place p = record { source = p.source.now; column = p.column; end = p.end; word = p.word.now }

-- the text of the line with a number, counted from 1, and nothing if there is none
abbrev pub line_numbered : List NumberedLine → ℕ → Text
line_numbered lines number = (slice_index_or lines (number - 1) (record { number = 0; text = [] })).text

-- whether messages of a kind are about a property, which follows blanks
abbrev pub is_about_property : MessageKind → Bool
is_about_property PropertyWithoutMatch = true
is_about_property NoEquals = true
is_about_property EmptyKey = true
is_about_property _ = false

-- the text of a clean line that a message of a kind is about: a property without its leading blanks, and else the
-- line
abbrev pub reported_text : Text → MessageKind → Text
reported_text clean kind = if is_about_property kind then unindented clean else clean

-- where a message of a kind is in a line: at the text that it is about, which ends where the clean line does
abbrev pub place_in : Text → MessageKind → Place
place_in source kind =
    let clean = trimmed (up_to hash source) in
    let word = reported_text clean kind in
    record { source = source; column = capped (length clean - length word + 1); end = capped (length clean + 1); word = word }

-- where a message is in the lines of its file
abbrev pub placed : List NumberedLine → Message → Place
placed lines message = place_in (line_numbered lines message.line) message.kind
