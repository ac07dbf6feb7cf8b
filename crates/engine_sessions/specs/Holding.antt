-- Serves inner proofs only: how a session's fields depend on one another, and what its helpers return.
use Rattle.std.specs.Prelude.{◌≡◌, ℕ, ◌≤◌, Bool, true, false, [], ◌∷◌, Err, Option, Some, None, length}
use Rattle.text_bytes.specs.Text.{Text}
use Rattle.device_core.specs.Runs.{complete_runs, rest_of}
use Rattle.device_core.specs.RunBlocks.{most_bytes}
use Rattle.device_core.specs.Splits.{Split}
use Rattle.device_core.specs.declared.splitter.SplitFault.{SplitFault}
use Rattle.device_core.specs.declared.splitter.SplitFault.TheVariants.{TooLong, Ended as SplitEnded}
use Rattle.device_core.specs.Values.{EventValue}
use Rattle.device_core.specs.Faults.{block_gives}
use Rattle.device_core.specs.declared.faults.BlockFaultKind.TheVariants.{TooLong as BlockTooLong}
use Rattle.engine_sessions.specs.Sinks.{SinkState, BreaksOff}
use Rattle.engine_sessions.specs.Answers.{answers_to, well, counted}
use Rattle.engine_sessions.specs.Sessions.{Held}
use Rattle.engine_sessions.specs.Turns.{Situation, Turns, say_something}
use Rattle.engine_sessions.specs.declared.session.SessionFault.{SessionFault}
use Rattle.engine_sessions.specs.declared.session.SessionFault.TheVariants.{Block, Memory, Ended}

-- what is pending: nothing once the session has ended
abbrev pub pending_unless : Bool → Text → Text
pending_unless true pending = []
pending_unless false pending = pending

-- a session by its fields
abbrev pub held : {A : Type 0} → A → Text → ℕ → Bool → Held A
held answering pending answered ended = record { answering = answering; pending = pending_unless ended pending; answered = answered; ended = ended }

-- a run that no empty line follows, or nothing
pub record IsRest (pending : Text) : Type 0 where
  pub none : complete_runs pending ≡ []
  pub rest : rest_of pending ≡ pending
  pub fits : length pending ≤ most_bytes

-- what a session's splitter and its count are as long as it has not ended
pub record IsOpen (split : Split) (answered : ℕ) : Type 0 where
  pub proceeds : split.ended ≡ false
  pub pending : IsRest split.pending
  pub counts : counted answered ≡ answered

-- the text is the answer to the event of the block
abbrev pub IsBlockAnswer : (EventValue → Text) → Text → Text → Type 0
IsBlockAnswer answer block text = answers_to answer (block ∷ []) ≡ well (text ∷ [])

-- why a block of this number is not answered
abbrev pub IsBlockRefused : SessionFault → ℕ → Text → Type 0
IsBlockRefused (Block number fault) wanted block = (number ≡ wanted) × (block_gives block ≡ Err fault)
IsBlockRefused Memory wanted block = Unit {0}
IsBlockRefused Ended wanted block = ⊥

-- what becomes of a splitter's fault at the block of this number
abbrev pub IsSplitRefused : SplitFault → ℕ → SessionFault → Type 0
IsSplitRefused (TooLong line) number fault = fault ≡ Block number (record { line = line; kind = BlockTooLong })
IsSplitRefused SplitEnded number fault = fault ≡ Ended

-- what a session is as long as it has not ended
pub record IsGoing {A : Type 0} (session : Held A) : Type 0 where
  pub proceeds : session.ended ≡ false
  pub pending : IsRest session.pending
  pub counts : counted session.answered ≡ session.answered

-- a sink that breaks off at an answer, if there is one
abbrev pub BreaksOffAt : SinkState → Option Text → SinkState → Type 0
BreaksOffAt before None now = ⊥
BreaksOffAt before (Some text) now = BreaksOff before text now

-- a turn, and whether any of the answers that it sends has a byte
pub record TurnsFinding {A : Type 0} (answer : EventValue → Text) (more finds : Bool) (before now : Situation A) : Type 0 where
  pub turn : Turns answer more before now
  pub finds_is : finds ≡ say_something turn.sends.texts

-- a turn, whether any of the answers that it sends has a byte, and what a listener was told in it
pub record TurnsTold {A : Type 0} (answer : EventValue → Text) (Told : Text → Type 0) (more finds : Bool) (before now : Situation A) : Type 0 where
  pub finding : TurnsFinding answer more finds before now
  pub told : Told finding.turn.piece
