-- What two sinks hold after a run, by its status.
use Rattle.std.specs.Prelude.{◌≡◌, ℕ, ◌<◌, ◌≤◌, ◌⊎◌, codes}
use Rattle.text_bytes.specs.Text.{Text}
use Rattle.engine_sessions.specs.Counts.{Counts}
use Rattle.engine_sessions.specs.Sinks.{BreaksOff, HandsOn, SinkState}
use Rattle.engine_sessions.specs.Streams.{Outputs}

-- what a run writes to the output and to the error output, and its status, if nothing fails
pub record RunOutcome : Type 0 where
  pub output : Text
  pub messages : Text
  pub status : ℕ

-- the line on a device that failed
abbrev pub write_failed : Text
write_failed = codes "devdry: write failed\n"

-- the line on memory that ran out
abbrev pub out_of_memory : Text
out_of_memory = codes "devdry: out of memory\n"

-- A line on a failure is passed on and its status returned, or the sink breaks off and the status is 3.
abbrev pub ReportsFailure : Text → ℕ → ℕ → SinkState → SinkState → Type 0
ReportsFailure line wanted status before now = ((status ≡ wanted) × HandsOn before line now) ⊎ ((status ≡ 3) × BreaksOff before line now)

-- Nothing failed: the messages are written and flushed, the output is written in the way that is asked for, and the
-- outcome's status is returned.
pub record IsWhole (Written : SinkState → Text → SinkState → Type 0) (outcome : RunOutcome) (status : ℕ) (before now : Outputs) : Type 0 where
  pub messages : HandsOn before.err outcome.messages now.err
  pub output : Written before.out outcome.output now.out
  pub status_is : status ≡ outcome.status

-- The error output failed at the messages: nothing was written to the output.
pub record FailsAtMessages (outcome : RunOutcome) (before now : Outputs) : Type 0 where
  pub messages : BreaksOff before.err outcome.messages now.err
  pub untouched : now.out ≡ before.out

-- The output failed after all messages were written: its line follows them, as far as the error output takes it.
pub record FailsAtOutput (outcome : RunOutcome) (status : ℕ) (before now : Outputs) : Type 0 where
  pub after : SinkState
  pub messages : HandsOn before.err outcome.messages after
  pub output : BreaksOff before.out outcome.output now.out
  pub line : ReportsFailure write_failed 3 status after now.err

-- Memory ran out: no part of the outcome is written, and the line that says so is, as far as the error output takes
-- it.
pub record IsOutOfMemory (status : ℕ) (before now : Outputs) : Type 0 where
  pub line : ReportsFailure out_of_memory 4 status before.err now.err
  pub untouched : now.out ≡ before.out

-- What was written, by the status: all of the outcome under 3, as far as the devices went at 3, and no part of it at 4.
pub record Delivers (outcome : RunOutcome) (status : ℕ) (before now : Outputs) : Type 0 where
  pub whole : status < 3 → IsWhole HandsOn outcome status before now
  pub failed : status ≡ 3 → FailsAtMessages outcome before now ⊎ FailsAtOutput outcome status before now ⊎ IsOutOfMemory status before now
  pub refused : status ≡ 4 → IsOutOfMemory status before now
  pub statuses : status ≤ 4

-- Status 3 is returned if one call of one of the sinks failed, and only then.
pub record ReportsFaults (status : ℕ) (before now : Outputs) : Type 0 where
  pub failed : status ≡ 3 → Counts 1 before.out.faults now.out.faults ⊎ Counts 1 before.err.faults now.err.faults
  pub well : (status ≡ 3 → ⊥) → (now.out.faults ≡ before.out.faults) × (now.err.faults ≡ before.err.faults)
