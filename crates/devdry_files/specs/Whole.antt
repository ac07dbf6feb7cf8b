-- What is read of an input that is a file.
use Rattle.std.specs.Prelude.{◌≡◌, ◌⊎◌, List, length}
use Rattle.text_bytes.specs.Text.{Text}
use Rattle.engine_sessions.specs.Counts.{Counts}
use Rattle.engine_sessions.specs.Reported.{NoneLeft, followed_by, led_by}
use Rattle.engine_sessions.specs.Sources.{SourceFails, SourceState}
use Rattle.engine_sessions.specs.Inputs.{ReadsWell, most_turns}
use Rattle.engine_sessions.specs.Turns.{joined}
use Rattle.devdry_files.specs.declared.input_reading.InputFault.{InputFault}
use Rattle.devdry_files.specs.declared.input_reading.InputFault.TheVariants.{Memory, Read}

-- A text was read in pieces, one in each read, and no read failed.
pub record ReadsText (before : SourceState) (text : Text) (now : SourceState) : Type 0 where
  pub read : List Text
  pub is_text : joined read ≡ text
  pub pieces : now.pieces ≡ followed_by before.pieces read
  pub left : before.left ≡ led_by text now.left
  pub counts : ReadsWell (length read) before now

-- The text is all that the input had.
pub record ReadsWhole (before : SourceState) (text : Text) (now : SourceState) : Type 0 where
  pub reads : ReadsText before text now
  pub none_left : NoneLeft now.left

-- Some of the input was read, and the read after that failed.
pub record FailsAfterText (before now : SourceState) : Type 0 where
  pub text : Text
  pub until : SourceState
  pub reads : ReadsText before text until
  pub fails : SourceFails until now

-- Some of the input was read.
pub record ReadsSome (before now : SourceState) : Type 0 where
  pub text : Text
  pub reads : ReadsText before text now

-- All reads that are made of one input were made.
pub record ReadsTooOften (before now : SourceState) : Type 0 where
  pub some : ReadsSome before now
  pub all : Counts most_turns before.reads now.reads

-- what was read of an input that is not read whole, by the reason
abbrev pub ReadsNot : InputFault → SourceState → SourceState → Type 0
ReadsNot Read before now = FailsAfterText before now ⊎ ReadsTooOften before now
ReadsNot Memory before now = ReadsSome before now
