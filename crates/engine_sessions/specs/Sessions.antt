-- What a session is to its callers, and what its calls do.
use Rattle.std.specs.Prelude.{◌≡◌, ℕ, ◌+◌, ◌<◌, ◌≤◌, Bool, true, false, List, [], ◌∷◌, ◌++◌, Option, None, Err, length, take}
use Rattle.std.specs.Option.{option_to_list}
use Rattle.text_bytes.specs.declared.profile.Profile.{Profile}
use Rattle.text_bytes.specs.Text.{Text}
use Rattle.device_core.specs.Runs.{complete_runs, rest_of, runs}
use Rattle.device_core.specs.RunBlocks.{most_bytes}
use Rattle.device_core.specs.Values.{EventValue, by_profile}
use Rattle.device_core.specs.Faults.{block_gives}
use Rattle.device_core.specs.declared.faults.BlockFault.{BlockFault}
use Rattle.engine_sessions.specs.Answers.{answers_to, well, counted, number_after}
use Rattle.engine_sessions.specs.declared.session.Step.{Step}
use Rattle.engine_sessions.specs.declared.session.SessionFault.{SessionFault}
use Rattle.engine_sessions.specs.declared.session.SessionFault.TheVariants.{Block, Memory, Ended}

-- answers to events, over which rules are evaluated by a profile
abbrev pub answers_as : Profile → (EventValue → Text) → EventValue → Text
answers_as profile answer event = answer (by_profile profile event)

-- what answers the events, and the profile by which rules are evaluated over them
pub record Asked (A : Type 0) : Type 0 where
  pub answering : A
  pub profile : Profile

-- something that is asked by a profile
abbrev pub asked_by : {A : Type 0} → Profile → A → Asked A
asked_by profile answering = record { answering = answering; profile = profile }

-- the answers of something that is asked, by its profile
abbrev pub answer_of : {A : Type 0} → (A → EventValue → Text) → Asked A → EventValue → Text
answer_of answers asked = answers_as asked.profile (answers asked.answering)

-- what answers the events, the bytes taken from a block that is not complete, how many blocks were answered, and
-- whether no more is taken
pub record Held (A : Type 0) : Type 0 where
  pub answering : A
  pub pending : Text
  pub answered : ℕ
  pub ended : Bool

-- at an input's start
abbrev pub opened : {A : Type 0} → A → Held A
opened answering = record { answering = answering; pending = []; answered = 0; ended = false }

-- nothing is held, and no more is taken
abbrev pub closed : {A : Type 0} → Held A → Held A
closed old = record old { pending = []; ended = true }

-- What `take` does: it uses the piece up to the end of the first block completed, or else all of it. The answers to the complete
-- runs of the pending bytes followed by those used are the one given or none, and the new pending bytes are the rest.
pub record SessionTakes {A : Type 0} (answer : EventValue → Text) (old : Held A) (piece : Text) (step : Step) (new : Held A) : Type 0 where
  pub used : step.used ≤ length piece
  pub answers : answers_to answer (complete_runs (old.pending ++ take step.used piece)) ≡ well (option_to_list step.answer)
  pub first : (n : ℕ) → n < step.used → complete_runs (old.pending ++ take n piece) ≡ []
  pub all : step.answer ≡ None → step.used ≡ length piece
  pub moves : 0 < length piece → 0 < step.used
  pub fits : length new.pending ≤ most_bytes
  pub proceeds : old.ended ≡ false
  pub leaves : new ≡ record {
    answering = old.answering;
    pending = rest_of (old.pending ++ take step.used piece);
    answered = counted (old.answered + length (option_to_list step.answer));
    ended = false;
  }

-- The first of these blocks is faulty, and its number is one more than those of the blocks answered.
pub record BeginsFaulty {A : Type 0} (old : Held A) (blocks : List Text) (number : ℕ) (fault : BlockFault) : Type 0 where
  pub block : Text
  pub others : List Text
  pub first : blocks ≡ block ∷ others
  pub gives : block_gives block ≡ Err fault
  pub numbered : number ≡ number_after old.answered

-- What a call does if it fails, by the blocks known then: the first of them is faulty, memory runs out, or the
-- session had ended. No more is taken from then on.
abbrev pub CallFailsBy : {A : Type 0} → SessionFault → Held A → List Text → Held A → Type 0
CallFailsBy (Block number fault) old blocks new = BeginsFaulty old blocks number fault × (old.ended ≡ false) × (new ≡ closed old)
CallFailsBy Memory old blocks new = (old.ended ≡ false) × (new ≡ closed old)
CallFailsBy Ended old blocks new = (old.ended ≡ true) × (new ≡ old)

-- What `end` does: it gives the answer to the block of the pending bytes, if there are any.
pub record SessionEnds {A : Type 0} (answer : EventValue → Text) (old : Held A) (last : Option Text) (new : Held A) : Type 0 where
  pub answers : answers_to answer (runs old.pending) ≡ well (option_to_list last)
  pub proceeds : old.ended ≡ false
  pub leaves : new ≡ record (closed old) { answered = counted (old.answered + length (option_to_list last)) }
