-- What a run over the lines of an input reads, writes and answers.
use Rattle.std.specs.Prelude.{◌≡◌, ℕ, ◌+◌, ◌<◌, ◌≤◌, ◌⊎◌, List, [], ◌∷◌, ◌++◌, drop, flat_map, length, take}
use Rattle.text_bytes.specs.Lines.{lines}
use Rattle.text_bytes.specs.Text.{Text}
use Rattle.device_core.specs.RunBlocks.{newline_count}
use Rattle.engine_sessions.specs.Counts.{Counts}
use Rattle.engine_sessions.specs.Sinks.{BreaksOff, HandsOn, SinkState}
use Rattle.engine_sessions.specs.Streams.{Streams}
use Rattle.engine_sessions.specs.Delivery.{ReportsFailure, out_of_memory, write_failed}
use Rattle.engine_sessions.specs.Inputs.{BeforeReads, GoesOn, ReadsToFault, ReadsWell}
use Rattle.engine_sessions.specs.Serves.{HasFlushed, Serves, StopsBefore, WritesOut, read_failed}
use Rattle.engine_sessions.specs.Turns.{joined}
use Rattle.engine_reports.specs.LookupOutcomes.{lines_outcome, most_bytes, too_long_line}

-- the lines of a text that a newline ends: as many, from the first, as it has newlines
abbrev pub ended_lines : Text → List Text
ended_lines text = take (newline_count text) (lines text)

-- what follows the last newline of a text
abbrev pub unended : Text → Text
unended text = joined (drop (newline_count text) (lines text))

-- The answers to all lines that newlines end in these pieces are flushed.
abbrev pub HasAnswered : (Text → Text) → List Text → SinkState → SinkState → Type 0
HasAnswered answer read before now = HasFlushed before (flat_map answer (ended_lines (joined read))) now

-- Before each of these pieces was read, no more bytes of a line that had not ended were read than a line may have.
abbrev pub HoldsFew : List Text → Type 0
HoldsFew read = (n : ℕ) → n < length read → length (unended (joined (take n read))) ≤ most_bytes

-- The output broke off in the answer to the first of these lines.
abbrev pub BreaksOffAtFirst : (Text → Text) → List Text → SinkState → SinkState → Type 0
BreaksOffAtFirst answer [] after now = ⊥
BreaksOffAtFirst answer (line ∷ lines) after now = BreaksOff after (answer line) now

-- The first lines of a text are answered, some number of them, and after that nothing; or the output broke off in the answer to the
-- next one.
pub record AnswersFirst (answer : Text → Text) (text : Text) (before now : SinkState) : Type 0 where
  pub answered : List Text
  pub others : List Text
  pub lines_are : lines text ≡ answered ++ others
  pub after : SinkState
  pub writes : WritesOut before (flat_map answer answered) after
  pub ends : (now ≡ after) ⊎ BreaksOffAtFirst answer others after now

-- How a run ends after answers to so many lines, and which line says so: none if all is well; that the next line is too long; that
-- memory ran out; that a read failed, if the output did not; or that a write failed, if the output did.
abbrev pub SaysHow : (answered status : ℕ) → (before now : Streams) → (err : SinkState) → Type 0
SaysHow answered status before now err =
    ((status ≡ 0) × (now.err ≡ err))
    ⊎ ReportsFailure (too_long_line (answered + 1)) 1 status err now.err
    ⊎ ReportsFailure out_of_memory 4 status err now.err
    ⊎ ((now.out.faults ≡ before.out.faults) × ReportsFailure read_failed 3 status err now.err)
    ⊎ (Counts 1 before.out.faults now.out.faults × ReportsFailure write_failed 3 status err now.err)

-- The messages are written, then lines of a text are answered, and then at most one line says how that ended.
pub record LooksAfter (messages : Text) (answer : Text → Text) (text : Text) (status : ℕ) (before now : Streams) : Type 0 where
  pub after : SinkState
  pub says : HandsOn before.err messages after
  pub answers : AnswersFirst answer text before.out now.out
  pub concludes : SaysHow (length answers.answered) status before now after

-- These pieces are read, step by step. Nothing is read or answered before the messages are written, and no line after the output failed.
-- Each read gives a piece, except one that fails. Before each read the input went on, and the answers to all lines that had ended were
-- flushed. No more bytes of a line were read than a line may have before the next piece was.
pub record LooksThrough (messages : Text) (answer : Text → Text) (read : List Text) (status : ℕ) (before now : Streams) : Type 0 where
  pub order : StopsBefore messages status before now ⊎ LooksAfter messages answer (joined read) status before now
  pub reads : ReadsWell (length read) before.input now.input ⊎ ReadsToFault (length read) before.input now.input
  pub goes_on : BeforeReads GoesOn read before.input now.input
  pub due : BeforeReads (λ pieces. HasAnswered answer pieces before.out now.out) read before.input now.input
  pub fits : HoldsFew read

-- What is written and answered is the outcome of the lines of the input, also step by step.
pub record LooksUp (messages : Text) (answer : Text → Text) (status : ℕ) (before now : Streams) : Type 0 where
  pub serves : Serves (lines_outcome messages answer) status before now
  pub steps : LooksThrough messages answer serves.read status before now
