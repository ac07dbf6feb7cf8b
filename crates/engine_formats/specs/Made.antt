-- Diagnostics that are made from messages, and where messages are in their file.
use Rattle.std.specs.Prelude.{◌≡◌, ℕ, ◌+◌, ◌-◌, ◌<◌, List, drop, length, take}
use Rattle.std.specs.List.{AllZip, Contains}
use Rattle.text_bytes.specs.Lines.{NumberedLine}
use Rattle.text_bytes.specs.Texts.{word_of}
use Rattle.file_messages.specs.declared.message.Message.{Message}
use Rattle.engine_formats.specs.Diagnostics.{DiagnosticValue}
use Rattle.engine_formats.specs.Placing.{Place}
use Rattle.file_catalogue.specs.declared.remark.Remark.TheVariants as about

-- A diagnostic is made from a message: it has its file, its line and its kind, and a word whose first bytes the
-- message keeps.
pub record IsMadeFrom (message : Message) (d : DiagnosticValue) : Type 0 where
  pub name : d.name ≡ message.file
  pub begins : d.begins ≡ message.line
  pub remark : d.remark ≡ about.Message message.kind
  pub word : word_of d.word ≡ message.word

-- Diagnostics are made from messages, each from the one at its place.
abbrev pub AreMadeFrom : List Message → List DiagnosticValue → Type 0
AreMadeFrom messages diagnostics = AllZip IsMadeFrom messages diagnostics

-- A place is among lines: it has the text of the line with this number, in which its word begins at its column and
-- ends before its end.
pub record IsFoundIn (lines : List NumberedLine) (number : ℕ) (p : Place) : Type 0 where
  pub line : Contains lines (record { number = number; text = p.source })
  pub first : 0 < p.column
  pub end : p.end ≡ p.column + length p.word
  pub text : take (p.end - p.column) (drop (p.column - 1) p.source) ≡ p.word
