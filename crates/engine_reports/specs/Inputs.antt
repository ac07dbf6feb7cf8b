-- For proofs only, no reader has to believe it: what is read of an input in turns, and how that ends.
use Rattle.std.specs.Prelude.{◌≡◌, ℕ, ◌+◌, ◌⊎◌, Bool, true, false, List, [], ◌++◌, Option, Some, Result, Ok, Err, flat_map, length}
use Rattle.text_bytes.specs.Lines.{lines}
use Rattle.text_bytes.specs.Text.{Text}
use Rattle.engine_sessions.specs.Reported.{followed_by, led_by, NoneLeft}
use Rattle.engine_sessions.specs.Counts.{Counts}
use Rattle.engine_sessions.specs.Sources.{SourceFails, SourceState}
use Rattle.engine_sessions.specs.Sinks.{SinkState}
use Rattle.engine_sessions.specs.Delivery.{ReportsFailure, out_of_memory, write_failed}
use Rattle.engine_sessions.specs.Inputs.{BeforeReads, Devices, GoesOn, ReadsToFault, ReadsWell, UsesUp}
use Rattle.engine_sessions.specs.Serves.{WritesOut, read_failed}
use Rattle.engine_sessions.specs.Turns.{Reads, joined}
use Rattle.engine_reports.specs.LookupOutcomes.{too_long_line}
use Rattle.engine_reports.specs.Runs.{HasAnswered, HoldsFew}
use Rattle.engine_reports.specs.Taking.{Answers, HeldLine, Leads, StopsIn, first_line}
use Rattle.engine_reports.specs.declared.held.LookupFault.{LookupFault}
use Rattle.engine_reports.specs.declared.held.LookupFault.TheVariants.{Read, Write, TooLong, Memory}

-- A piece was read, and the lines that end in it are answered.
pub record Proceeds (answer : Text → Text) (old new : HeldLine) (before now : Devices) : Type 0 where
  pub piece : Text
  pub reads : Reads true before.input piece now.input
  pub answers : Answers answer old piece new before.output now.output

-- The input ends, and its last line is answered, if it has one that no newline ends.
pub record Ends (answer : Text → Text) (old : HeldLine) (before now : Devices) : Type 0 where
  pub piece : Text
  pub reads : Reads false before.input piece now.input
  pub leads : Leads answer (lines old.bytes)
  pub writes : WritesOut before.output (flat_map answer (lines old.bytes)) now.output

-- what a turn does, by whether the input goes on
abbrev pub Turns : (Text → Text) → Bool → (old new : HeldLine) → (before now : Devices) → Type 0
Turns answer true old new before now = Proceeds answer old new before now
Turns answer false old new before now = Ends answer old before now

-- A piece was read, and then it stops.
pub record FailsAfterRead (answer : Text → Text) (fault : LookupFault) (old : HeldLine) (before now : Devices) : Type 0 where
  pub more : Bool
  pub piece : Text
  pub reads : Reads more before.input piece now.input
  pub stops : StopsIn answer fault more old.number (old.bytes ++ piece) before.output now.output

-- what a turn does if it fails: its read failed, or it stops after that
abbrev pub TurnFails : (Text → Text) → LookupFault → HeldLine → (before now : Devices) → Type 0
TurnFails answer Read old before now = SourceFails before.input now.input × (now.output ≡ before.output)
TurnFails answer fault old before now = FailsAfterRead answer fault old before now

-- All of the text is answered, and no byte is left.
pub record IsAnswered (answer : Text → Text) (text : Text) (left : Option Text) (before now : SinkState) : Type 0 where
  pub leads : Leads answer (lines text)
  pub writes : WritesOut before (flat_map answer (lines text)) now
  pub none_left : NoneLeft left

-- The lines that ended in the text are answered.
pub record IsAnsweredSoFar (answer : Text → Text) (text : Text) (before now : SinkState) : Type 0 where
  pub held : HeldLine
  pub answers : Answers answer first_line text held before now

-- It stops in the text.
pub record StopsInput (answer : Text → Text) (fault : LookupFault) (text : Text) (left : Option Text) (before now : SinkState) : Type 0 where
  pub more : Bool
  pub stops : StopsIn answer fault more 1 text before now
  pub last : (rest : Text) → left ≡ Some rest → more ≡ false → rest ≡ []

-- how it ends, by the bytes read and those left
abbrev pub EndsBy : (Text → Text) → Result (Unit {0}) LookupFault → (text : Text) → (left : Option Text) → (before now : SinkState) → Type 0
EndsBy answer (Ok done) text left before now = IsAnswered answer text left before now
EndsBy answer (Err Read) text left before now = IsAnsweredSoFar answer text before now
EndsBy answer (Err fault) text left before now = StopsInput answer fault text left before now

-- whether a read failed, or all turns were used up
abbrev pub FaultsBy : Result (Unit {0}) LookupFault → ℕ → (before now : SourceState) → Type 0
FaultsBy (Err Read) turns before now = Counts 1 before.faults now.faults ⊎ UsesUp turns before now
FaultsBy _ turns before now = now.faults ≡ before.faults

-- What is read of an input in pieces, which of its lines are answered, and how it ends.
pub record AnswersInput (answer : Text → Text) (end : Result (Unit {0}) LookupFault) (before now : Devices) : Type 0 where
  pub read : List Text
  pub pieces : now.input.pieces ≡ followed_by before.input.pieces read
  pub left : before.input.left ≡ led_by (joined read) now.input.left
  pub faults : FaultsBy end (length read) before.input now.input
  pub reads : ReadsWell (length read) before.input now.input ⊎ ReadsToFault (length read) before.input now.input
  pub goes_on : BeforeReads GoesOn read before.input now.input
  pub fits : HoldsFew read
  pub due : BeforeReads (λ pieces. HasAnswered answer pieces before.output now.output) read before.input now.input
  pub ends : EndsBy answer end (joined read) now.input.left before.output now.output

-- how that is reported: by nothing, or by one line and its status
abbrev pub Concludes : Result (Unit {0}) LookupFault → ℕ → SinkState → SinkState → Type 0
Concludes (Ok done) status err err_now = (status ≡ 0) × (err_now ≡ err)
Concludes (Err Read) status err err_now = ReportsFailure read_failed 3 status err err_now
Concludes (Err Write) status err err_now = ReportsFailure write_failed 3 status err err_now
Concludes (Err (TooLong counted)) status err err_now = ReportsFailure (too_long_line counted) 1 status err err_now
Concludes (Err Memory) status err err_now = ReportsFailure out_of_memory 4 status err err_now
