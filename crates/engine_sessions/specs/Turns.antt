-- What a turn reads and sends.
use Rattle.std.specs.Prelude.{◌≡◌, ◌↔◌, ◌==◌, ℕ, ◌+◌, ◌≤◌, Bool, true, false, not, List, [], ◌∷◌, ◌++◌, Some, length, flat_map, if◌then◌else◌}
use Rattle.text_bytes.specs.Text.{Text}
use Rattle.device_core.specs.Runs.{rest_of}
use Rattle.device_core.specs.Values.{EventValue}
use Rattle.device_core.specs.declared.faults.BlockFault.{BlockFault}
use Rattle.engine_sessions.specs.Reported.{NoneLeft}
use Rattle.engine_sessions.specs.Sources.{SourceState, Gives, SourceFails}
use Rattle.engine_sessions.specs.Sinks.{SinkState, BreaksOff, HandsOn}
use Rattle.engine_sessions.specs.Answers.{Answers, answers_to, well, counted, number_after}
use Rattle.engine_sessions.specs.Known.{known_blocks}
use Rattle.engine_sessions.specs.Sessions.{Held, closed}
use Rattle.engine_sessions.specs.declared.session.SessionFault.TheVariants.{Block, Memory, Ended}
use Rattle.engine_sessions.specs.declared.turning.TurnFault.{TurnFault}
use Rattle.engine_sessions.specs.declared.turning.TurnFault.TheVariants.{Read, Write, Session}

-- a session, with what its input and its output show
pub record Situation (A : Type 0) : Type 0 where
  pub session : Held A
  pub input : SourceState
  pub output : SinkState

-- answers, one after another
abbrev pub joined : List Text → Text
joined texts = flat_map (λ text. text) texts

-- whether any of these answers has a byte
abbrev pub say_something : List Text → Bool
say_something texts = not (length (joined texts) == 0)

-- The sink took and flushed these answers, and no call failed; if there are none, it is as it was.
abbrev pub Sends : SinkState → List Text → SinkState → Type 0
Sends before [] now = now ≡ before
Sends before (text ∷ texts) now = HandsOn before (joined (text ∷ texts)) now

-- These answers are the first of others.
abbrev pub AreFirstOf : List Text → List Text → Type 0
AreFirstOf sent texts = (unsent : List Text) × (texts ≡ sent ++ unsent)

-- These answers are the first of others, and the sink broke off at the next one.
pub record BreaksOffAfter (sent texts : List Text) (after now : SinkState) : Type 0 where
  pub next : Text
  pub unsent : List Text
  pub texts_are : texts ≡ sent ++ next ∷ unsent
  pub breaks : BreaksOff after next now

-- The sink took and flushed the first of these answers, some number of them, and then broke off at the next one.
pub record BreaksOffIn (before : SinkState) (texts : List Text) (now : SinkState) : Type 0 where
  pub sent : List Text
  pub after : SinkState
  pub sends : Sends before sent after
  pub stops : BreaksOffAfter sent texts after now

-- The sink took and flushed the first of these answers, some number of them, and none of the others.
pub record SendsSome (before : SinkState) (texts : List Text) (now : SinkState) : Type 0 where
  pub sent : List Text
  pub first : AreFirstOf sent texts
  pub sends : Sends before sent now

-- The block after these answers has this number and this fault, and all of them were sent.
pub record Refuses (answers : Answers) (answered number : ℕ) (fault : BlockFault) (before now : SinkState) : Type 0 where
  pub faulty : answers.fault ≡ Some fault
  pub numbered : number ≡ number_after (answered + length answers.texts)
  pub sends : Sends before answers.texts now

-- the most bytes of a read
abbrev pub most_read : ℕ
most_read = 4096

-- One piece was read; it is empty if and only if the input goes on no more.
pub record Reads (more : Bool) (before : SourceState) (piece : Text) (now : SourceState) : Type 0 where
  pub gives : Gives before piece now
  pub most : length piece ≤ most_read
  pub ends : more ≡ false ↔ piece ≡ []
  pub none_left : more ≡ false → NoneLeft before.left

-- the answers due when a piece was read: those to the blocks known of the pending bytes followed by it
abbrev pub due : (EventValue → Text) → Bool → Text → Text → Answers
due answer more pending piece = answers_to answer (known_blocks more (pending ++ piece))

-- the session after a piece, with so many more answers
abbrev pub following : {A : Type 0} → Bool → Held A → Text → ℕ → Held A
following more old piece answers = record {
  answering = old.answering;
  pending = if more then rest_of (old.pending ++ piece) else [];
  answered = counted (old.answered + answers);
  ended = not more;
}

-- The session has ended and holds nothing. What answers the events is the same; more blocks may have been answered.
abbrev pub HasEnded : {A : Type 0} → Held A → Held A → Type 0
HasEnded old new = new ≡ record (closed old) { answered = new.answered }

-- Every answer that is due when a piece was read is sent, and no block known is faulty.
pub record SendsDue {A : Type 0} (answer : EventValue → Text) (more : Bool) (old : Held A) (piece : Text) (new : Held A) (before now : SinkState) : Type 0 where
  pub texts : List Text
  pub answers : due answer more old.pending piece ≡ well texts
  pub sends : Sends before texts now
  pub leaves : new ≡ following more old piece (length texts)

-- What a turn does: it makes one read, and sends every answer that is due then.
pub record Turns {A : Type 0} (answer : EventValue → Text) (more : Bool) (before now : Situation A) : Type 0 where
  pub proceeds : before.session.ended ≡ false
  pub piece : Text
  pub reads : Reads more before.input piece now.input
  pub sends : SendsDue answer more before.session piece now.session before.output now.output

-- Which of the answers due are sent if a turn fails after its read: up to the one in which the output failed, all
-- before a faulty block, or some if memory runs out.
abbrev pub SendsUntil : TurnFault → Answers → ℕ → SinkState → SinkState → Type 0
SendsUntil Read answers answered before now = ⊥
SendsUntil Write answers answered before now = BreaksOffIn before answers.texts now
SendsUntil (Session (Block number fault)) answers answered before now = Refuses answers answered number fault before now
SendsUntil (Session Memory) answers answered before now = SendsSome before answers.texts now
SendsUntil (Session Ended) answers answered before now = ⊥

-- One read was made, and then the turn failed.
pub record FailsAfterRead {A : Type 0} (answer : EventValue → Text) (fault : TurnFault) (before now : Situation A) : Type 0 where
  pub proceeds : before.session.ended ≡ false
  pub more : Bool
  pub piece : Text
  pub reads : Reads more before.input piece now.input
  pub sends : SendsUntil fault (due answer more before.session.pending piece) before.session.answered before.output now.output

-- What a turn reads and sends if it fails: its read failed and nothing is sent, or the session had ended and nothing is read or sent,
-- or it failed after the read.
abbrev pub TurnFailsBy : {A : Type 0} → (EventValue → Text) → TurnFault → (before now : Situation A) → Type 0
TurnFailsBy answer Read before now = (before.session.ended ≡ false) × SourceFails before.input now.input × (now.output ≡ before.output)
TurnFailsBy answer (Session Ended) before now = (before.session.ended ≡ true) × (now.input ≡ before.input) × (now.output ≡ before.output)
TurnFailsBy answer fault before now = FailsAfterRead answer fault before now
