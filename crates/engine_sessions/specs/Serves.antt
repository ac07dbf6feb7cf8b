-- What a run reads, writes and returns, by its status and step by step.
use Rattle.std.specs.Prelude.{◌≡◌, ℕ, ◌<◌, ◌≤◌, ◌⊎◌, Bool, true, false, List, [], ◌++◌, Some, Result, Ok, Err, codes, length}
use Rattle.text_bytes.specs.Text.{Text}
use Rattle.device_core.specs.Values.{EventValue}
use Rattle.engine_sessions.specs.Reported.{followed_by}
use Rattle.engine_sessions.specs.Counts.{Counts}
use Rattle.engine_sessions.specs.Sinks.{BreaksOff, HandsOn, HasBegun, SinkState}
use Rattle.engine_sessions.specs.Streams.{Streams, outputs}
use Rattle.engine_sessions.specs.Turns.{joined}
use Rattle.engine_sessions.specs.Outcomes.{no_block_line, tells_none}
use Rattle.engine_sessions.specs.declared.following.Telling.{Telling}
use Rattle.engine_sessions.specs.declared.session.SessionFault.TheVariants.{Block, Memory, Ended}
use Rattle.engine_sessions.specs.declared.turning.TurnFault.{TurnFault}
use Rattle.engine_sessions.specs.declared.turning.TurnFault.TheVariants.{Read, Write, Session}
use Rattle.engine_sessions.specs.Delivery.{Delivers, IsWhole, ReportsFailure, ReportsFaults, RunOutcome, out_of_memory, write_failed}
use Rattle.engine_sessions.specs.BlockFaults.{block_said}
use Rattle.engine_sessions.specs.Inputs.{AnswersInput, UsesUp, devices_of}

-- the line on an input that failed
abbrev pub read_failed : Text
read_failed = codes "devdry: read failed\n"

-- The sink took and flushed a whole text, and no call failed; or the text is empty, and the sink is as it was.
abbrev pub WritesOut : SinkState → Text → SinkState → Type 0
WritesOut before text now = HandsOn before text now ⊎ ((text ≡ []) × (now ≡ before))

-- A text is flushed, the first of all that was taken since; or it is empty.
abbrev pub HasFlushed : SinkState → Text → SinkState → Type 0
HasFlushed before text now = (text ≡ []) ⊎ ((following : Text) × (now.flushed ≡ followed_by before.taken (text ++ following)))

-- nothing, or one of the lines on a failure
abbrev pub IsStatusLine : Text → Type 0
IsStatusLine line = (line ≡ []) ⊎ (line ≡ read_failed) ⊎ (line ≡ write_failed) ⊎ (line ≡ out_of_memory)

-- A first part of the outcome is written: of the output, and of the messages with a first part of one status line after them. At
-- status 4 that line is the one on memory, and it is whole.
pub record IsCutShort (outcome : RunOutcome) (status : ℕ) (before now : Streams) : Type 0 where
  pub output : HasBegun before.out outcome.output now.out
  pub after : SinkState
  pub messages : HasBegun before.err outcome.messages after
  pub line : Text
  pub line_is : IsStatusLine line
  pub begun : HasBegun after line now.err
  pub memory : status ≡ 4 → HandsOn after out_of_memory now.err

-- Which devices failed: at status 3 one call of one of them, or the input did not end within its turns; at any other status none.
pub record ReportsFailures (status turns : ℕ) (before now : Streams) : Type 0 where
  pub failed : status ≡ 3 → Counts 1 before.input.faults now.input.faults ⊎ Counts 1 before.out.faults now.out.faults
      ⊎ Counts 1 before.err.faults now.err.faults ⊎ UsesUp turns before.input now.input
  pub well : (status ≡ 3 → ⊥) → (now.input.faults ≡ before.input.faults) × (now.out.faults ≡ before.out.faults) × (now.err.faults ≡ before.err.faults)

-- Some pieces of the input were read. Under 3 all of the outcome of their bytes is written, flushed and returned, and
-- it is the outcome of the whole input; else a first part of it is written.
pub record Serves (outcome : Text → RunOutcome) (status : ℕ) (before now : Streams) : Type 0 where
  pub read : List Text
  pub pieces : now.input.pieces ≡ followed_by before.input.pieces read
  pub whole : status < 3 → IsWhole WritesOut (outcome (joined read)) status (outputs before) (outputs now)
  pub all : status < 3 → (text : Text) → before.input.left ≡ Some text → outcome text ≡ outcome (joined read)
  pub cut : 3 ≤ status → IsCutShort (outcome (joined read)) status before now
  pub failures : ReportsFailures status (length read) before now
  pub statuses : status ≤ 4

-- What is said about the fault that stopped the answering of an input, about a faulty block for people or not, and the status for it.
-- The last line is there for completeness: no answering of an input ends with `Ended` (`EndsBy`).
abbrev pub fault_said : (for_people : Bool) → TurnFault → Text × ℕ
fault_said for_people Read = (read_failed, 3)
fault_said for_people Write = (write_failed, 3)
fault_said for_people (Session (Block number fault)) = (block_said for_people number fault, 1)
fault_said for_people (Session Memory) = (out_of_memory, 4)
fault_said for_people (Session Ended) = ([], 3)

-- That is said on the error output, and its status returned, or the error output fails in it.
abbrev pub SaysFault : (for_people : Bool) → TurnFault → ℕ → SinkState → SinkState → Type 0
SaysFault for_people fault status err err_now =
    ReportsFailure (fault_said for_people fault).0 (fault_said for_people fault).1 status err err_now

-- How a run ends whose input is answered: with this status, after the line that the input has no block, if that is told.
abbrev pub EndsWell : (none : Bool) → (wanted : ℕ) → ℕ → SinkState → SinkState → Type 0
EndsWell true wanted status err err_now = ReportsFailure no_block_line wanted status err err_now
EndsWell false wanted status err err_now = (status ≡ wanted) × (err_now ≡ err)

-- How a run ends after its input, by the answers sent: if all is answered, with the status that is for them; otherwise the fault is said.
abbrev pub Concludes : Telling → (sent : List Text) → (for_sent : ℕ) → Result (Unit {0}) TurnFault → ℕ → SinkState → SinkState → Type 0
Concludes telling sent for_sent (Ok done) status err err_now = EndsWell (tells_none telling (length sent)) for_sent status err err_now
Concludes telling sent for_sent (Err fault) status err err_now = SaysFault telling.for_people fault status err err_now

-- The messages are written, then the input is answered, and then the run ends: if all is answered, with the status that is for the
-- answers sent.
pub record AnswersAfter (telling : Telling) (status_for : List Text → ℕ) (messages : Text) (answer : EventValue → Text) (status : ℕ)
    (before now : Streams) : Type 0 where
  pub after : SinkState
  pub says : HandsOn before.err messages after
  pub end : Result (Unit {0}) TurnFault
  pub answers : AnswersInput answer end (devices_of before) (devices_of now)
  pub concludes : Concludes telling answers.sent (status_for answers.sent) end status after now.err

-- Nothing is read or answered: the error output failed at the messages, or memory runs out before them, which its
-- line says.
pub record StopsBefore (messages : Text) (status : ℕ) (before now : Streams) : Type 0 where
  pub unread : now.input ≡ before.input
  pub unanswered : now.out ≡ before.out
  pub reports : ((status ≡ 3) × BreaksOff before.err messages now.err) ⊎ ReportsFailure out_of_memory 4 status before.err now.err

-- Messages, and the answers to an input after them, step by step.
abbrev pub AnswersAll : Telling → Text → (EventValue → Text) → ℕ → Streams → Streams → Type 0
AnswersAll telling messages answer status before now =
    StopsBefore messages status before now ⊎ AnswersAfter telling (λ sent. 0) messages answer status before now

-- What is said about files is delivered, and no input is read.
pub record Reports (outcome : RunOutcome) (status : ℕ) (before now : Streams) : Type 0 where
  pub delivers : Delivers outcome status (outputs before) (outputs now)
  pub faults : ReportsFaults status (outputs before) (outputs now)
  pub unread : now.input ≡ before.input
