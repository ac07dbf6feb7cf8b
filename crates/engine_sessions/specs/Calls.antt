-- Calls of `take` in a row, each with what is passed to it: pieces of an input, and what is left of them.
use Rattle.std.specs.Prelude.{◌≡◌, ℕ, List, [], ◌∷◌, ◌++◌, Option, Some, length, take}
use Rattle.std.specs.Option.{option_to_list}
use Rattle.text_bytes.specs.Text.{Text}
use Rattle.device_core.specs.Runs.{complete_runs, rest_of}
use Rattle.device_core.specs.Values.{EventValue}
use Rattle.device_core.specs.declared.faults.BlockFault.{BlockFault}
use Rattle.engine_sessions.specs.Answers.{answers_to, answers_of, well, counted, number_after}
use Rattle.engine_sessions.specs.Sessions.{Held, SessionTakes}
use Rattle.engine_sessions.specs.declared.session.Step.{Step}

-- a call: the piece, its outcome, and the session after it
pub record Call (A : Type 0) : Type 0 where
  pub piece : Text
  pub step : Step
  pub after : Held A

-- each call goes on where the one before it stopped
abbrev pub TakesAll : {A : Type 0} → (EventValue → Text) → Held A → List (Call A) → Held A → Type 0
TakesAll answer old [] new = old ≡ new
TakesAll answer old (call ∷ calls) new = SessionTakes answer old call.piece call.step call.after × TakesAll answer call.after calls new

-- all bytes that the calls used, in order
abbrev pub used_by : {A : Type 0} → List (Call A) → Text
used_by [] = []
used_by (call ∷ calls) = take call.step.used call.piece ++ used_by calls

-- all answers that they gave, in order
abbrev pub given_by : {A : Type 0} → List (Call A) → List Text
given_by [] = []
given_by (call ∷ calls) = option_to_list call.step.answer ++ given_by calls

-- The answers given are those to the complete runs of the bytes used, each counted, and the rest is pending.
pub record GiveAnswers {A : Type 0} (answer : EventValue → Text) (calls : List (Call A)) (now : Held A) : Type 0 where
  pub answers : answers_to answer (complete_runs (used_by calls)) ≡ well (given_by calls)
  pub pending : now.pending ≡ rest_of (used_by calls)
  pub answered : now.answered ≡ counted (length (given_by calls))

-- The answers given, with that at the end, are those to the input that was used, and no block of it is faulty.
abbrev pub GiveAll : {A : Type 0} → (EventValue → Text) → List (Call A) → Option Text → Type 0
GiveAll answer calls last = answers_of answer (used_by calls) ≡ well (given_by calls ++ option_to_list last)

-- The answers to this input are those given, and then this fault in the block of this number.
pub record GiveUntil (answer : EventValue → Text) (input : Text) (given : List Text) (number : ℕ) (fault : BlockFault) : Type 0 where
  pub answers : answers_of answer input ≡ record { texts = given; fault = Some fault }
  pub numbered : number ≡ number_after (length given)
