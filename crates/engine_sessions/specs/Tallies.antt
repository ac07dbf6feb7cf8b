-- What a run says after its answers, by all events of its input.
use Rattle.std.specs.Prelude.{◌≡◌, ℕ, ◌⊎◌, ◌==◌, Bool, if◌then◌else◌, List, [], ◌++◌, Option, Some, None, Result, Ok, Err, IfOk, filter_map, length, map}
use Rattle.text_bytes.specs.declared.profile.Profile.{Profile}
use Rattle.text_bytes.specs.Text.{Text}
use Rattle.device_core.specs.Runs.{runs}
use Rattle.device_core.specs.Values.{EventValue, by_profile}
use Rattle.device_core.specs.Faults.{block_gives}
use Rattle.device_core.specs.declared.faults.BlockFault.{BlockFault}
use Rattle.engine_sessions.specs.Sinks.{BreaksOff, HandsOn, SinkState}
use Rattle.engine_sessions.specs.Streams.{Streams}
use Rattle.engine_sessions.specs.Delivery.{ReportsFailure, RunOutcome, out_of_memory, write_failed}
use Rattle.engine_sessions.specs.Turns.{joined}
use Rattle.engine_sessions.specs.Inputs.{AnswersInput, Devices, devices_of}
use Rattle.engine_sessions.specs.Findings.{AnswersFinding}
use Rattle.engine_sessions.specs.Outcomes.{tells_none}
use Rattle.engine_sessions.specs.Serves.{EndsWell, SaysFault, StopsBefore}
use Rattle.engine_sessions.specs.declared.following.Telling.{Telling}
use Rattle.engine_sessions.specs.declared.inputs.Findings.{Findings}
use Rattle.engine_sessions.specs.declared.turning.TurnFault.{TurnFault}

-- the event of a block that is not faulty
abbrev pub event_given : Result EventValue BlockFault → Option EventValue
event_given (Ok event) = Some event
event_given (Err fault) = None

-- the events of blocks, over which rules are evaluated by a profile
abbrev pub events_in : Profile → List Text → List EventValue
events_in profile blocks = map (by_profile profile) (filter_map (λ block. event_given (block_gives block)) blocks)

-- the events of an input
abbrev pub events_of : Profile → Text → List EventValue
events_of profile input = events_in profile (runs input)

-- an outcome with a text that follows its output if no block is faulty
abbrev pub with_said : Text → RunOutcome → RunOutcome
with_said text outcome = record {
  output = outcome.output ++ (if outcome.status == 0 then text else []);
  messages = outcome.messages;
  status = outcome.status;
}

-- What is said after a piece was told, by what follows it, is what was said before it, by the piece and what follows.
abbrev pub IsTold : (old new : Text → Text) → (piece : Text) → Type 0
IsTold old new piece = (rest : Text) → new rest ≡ old (piece ++ rest)

-- An input is answered, and if all of it is, a listener was told all of it.
pub record HearsInput (answer : EventValue → Text) (old new : Text → Text) (end : Result Findings TurnFault) (before now : Devices) : Type 0 where
  pub finds : AnswersFinding answer end before now
  pub told : IfOk end (λ f. IsTold old new (joined finds.answers.read))

-- A text is the last that is written, and the run then ends well, or the output breaks off in it, or memory runs out before it.
abbrev pub SaysLast : (none : Bool) → Text → ℕ → (out out_now err err_now : SinkState) → Type 0
SaysLast none text status out out_now err err_now =
    (HandsOn out text out_now × EndsWell none 0 status err err_now)
    ⊎ (BreaksOff out text out_now × ReportsFailure write_failed 3 status err err_now)
    ⊎ ((out_now ≡ out) × ReportsFailure out_of_memory 4 status err err_now)

-- How a run ends after its input: with a text, if all was answered, and otherwise as it does without one.
abbrev pub ConcludesSaying : Telling → (sent : List Text) → Result (Unit {0}) TurnFault → Text → ℕ → (out out_now err err_now : SinkState) → Type 0
ConcludesSaying telling sent (Ok done) text status out out_now err err_now = SaysLast (tells_none telling (length sent)) text status out out_now err err_now
ConcludesSaying telling sent (Err fault) text status out out_now err err_now = (out_now ≡ out) × SaysFault telling.for_people fault status err err_now

-- The messages are written, then the input is answered, and then there is what is said about all of it.
pub record SaysAfter (telling : Telling) (messages : Text) (answer : EventValue → Text) (says : Text → Text) (status : ℕ) (before now : Streams) : Type 0 where
  pub after : SinkState
  pub written : HandsOn before.err messages after
  pub end : Result (Unit {0}) TurnFault
  pub out : SinkState
  pub answers : AnswersInput answer end (devices_of before) (record { input = now.input; output = out })
  pub concludes : ConcludesSaying telling answers.sent end (says (joined answers.read)) status out now.out after now.err

-- Messages, the answers to an input after them, and what is said about all of it, step by step.
abbrev pub SaysAll : Telling → Text → (EventValue → Text) → (Text → Text) → ℕ → Streams → Streams → Type 0
SaysAll telling messages answer says status before now = StopsBefore messages status before now ⊎ SaysAfter telling messages answer says status before now
