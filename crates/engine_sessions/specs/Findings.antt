-- The outcome of an input whose answers are findings: whether none was sent, whether any that was sent has a byte, and the status for
-- that.
use Rattle.std.specs.Prelude.{◌≡◌, ℕ, ◌⊎◌, ◌==◌, Bool, if◌then◌else◌, List, Result, Ok, Err, IfOk, length}
use Rattle.text_bytes.specs.Text.{Text}
use Rattle.device_core.specs.Values.{EventValue}
use Rattle.engine_sessions.specs.Streams.{Streams}
use Rattle.engine_sessions.specs.Delivery.{RunOutcome}
use Rattle.engine_sessions.specs.Turns.{say_something}
use Rattle.engine_sessions.specs.Inputs.{AnswersInput, Devices}
use Rattle.engine_sessions.specs.Serves.{AnswersAfter, StopsBefore}
use Rattle.engine_sessions.specs.declared.following.Telling.{Telling}
use Rattle.engine_sessions.specs.declared.inputs.Findings.{Findings}
use Rattle.engine_sessions.specs.declared.turning.TurnFault.{TurnFault}

-- how it ended, whatever was found
abbrev pub ended_by : Result Findings TurnFault → Result (Unit {0}) TurnFault
ended_by (Ok findings) = Ok tt
ended_by (Err fault) = Err fault

-- An input is answered, and if all of it is, whether there is no answer, and whether any has a byte.
pub record AnswersFinding (answer : EventValue → Text) (end : Result Findings TurnFault) (before now : Devices) : Type 0 where
  pub answers : AnswersInput answer (ended_by end) before now
  pub none_is : IfOk end (λ findings. findings.no_block ≡ (length answers.sent == 0))
  pub finds_is : IfOk end (λ findings. findings.finds ≡ say_something answers.sent)

-- an outcome whose output is a finding: its status is 1 if there is any output
abbrev pub found : RunOutcome → RunOutcome
found outcome = record { output = outcome.output; messages = outcome.messages; status = if length outcome.output == 0 then outcome.status else 1 }

-- the status for answers that are findings: 1 if any of them has a byte
abbrev pub status_found : List Text → ℕ
status_found sent = if say_something sent then 1 else 0

-- Messages, and the findings in an input after them, step by step.
abbrev pub FindsAll : Telling → Text → (EventValue → Text) → ℕ → Streams → Streams → Type 0
FindsAll telling messages answer status before now =
    StopsBefore messages status before now ⊎ AnswersAfter telling status_found messages answer status before now
