-- What is read from an input, which of its answers are sent, and how that ends.
use Rattle.std.specs.Prelude.{◌≡◌, ℕ, ◌+◌, ◌-◌, ◌^◌, ◌<◌, ◌≤◌, ◌⊎◌, List, ◌++◌, Option, Some, Result, Ok, Err, length, take}
use Rattle.std.specs.List.{AllByRecursion}
use Rattle.text_bytes.specs.Text.{Text}
use Rattle.device_core.specs.Runs.{complete_runs, rest_of}
use Rattle.device_core.specs.RunBlocks.{most_bytes}
use Rattle.device_core.specs.Values.{EventValue}
use Rattle.device_core.specs.declared.faults.BlockFault.{BlockFault}
use Rattle.engine_sessions.specs.Reported.{followed_by, led_by, NoneLeft}
use Rattle.engine_sessions.specs.Counts.{Counts}
use Rattle.engine_sessions.specs.Sources.{SourceState}
use Rattle.engine_sessions.specs.Sinks.{SinkState}
use Rattle.engine_sessions.specs.Streams.{Streams}
use Rattle.engine_sessions.specs.Answers.{answers_to, answers_of, well, number_after}
use Rattle.engine_sessions.specs.Turns.{AreFirstOf, BreaksOffAfter, Sends, joined}
use Rattle.engine_sessions.specs.declared.session.SessionFault.TheVariants.{Block, Memory, Ended}
use Rattle.engine_sessions.specs.declared.turning.TurnFault.{TurnFault}
use Rattle.engine_sessions.specs.declared.turning.TurnFault.TheVariants.{Read, Write, Session}

-- what an input and an output show
pub record Devices : Type 0 where
  pub input : SourceState
  pub output : SinkState

-- what those of a run show
abbrev pub devices_of : Streams → Devices
devices_of streams = record { input = streams.input; output = streams.out }

-- the most turns over one input
abbrev pub most_turns : ℕ
most_turns = 2 ^ 48

-- pieces without the last
abbrev pub all_but_last : List Text → List Text
all_but_last pieces = take (length pieces - 1) pieces

-- This holds of the pieces before each read: of all but the last, and of all of them if the read after them failed.
abbrev pub BeforeReads : (List Text → Type 0) → List Text → (before now : SourceState) → Type 0
BeforeReads Holds read before now = Holds (all_but_last read) × ((now.faults ≡ before.faults → ⊥) → Holds read)

-- None of these pieces is empty: the input goes on after each.
abbrev pub GoesOn : List Text → Type 0
GoesOn read = AllByRecursion (λ piece. 0 < length piece) read

-- The answers to the complete runs of all pieces read except the last are sent, in front of any others.
abbrev pub HasSentDue : (EventValue → Text) → List Text → List Text → Type 0
HasSentDue answer read sent = AreFirstOf (answers_to answer (complete_runs (joined (all_but_last read)))).texts sent

-- Before each of these pieces was read, no more bytes of a block that was not complete were held than a block may have.
abbrev pub HoldsFew : List Text → Type 0
HoldsFew read = (n : ℕ) → n < length read → length (rest_of (joined (take n read))) ≤ most_bytes

-- The bytes read of an input, those left of it, the answers sent, and the sink after these.
pub record Progress : Type 0 where
  pub text : Text
  pub left : Option Text
  pub sent : List Text
  pub after : SinkState

-- The answers sent are all those before a faulty block of this number, and what is left of the input changes nothing of that.
pub record StopsAtBlock (answer : EventValue → Text) (so_far : Progress) (number : ℕ) (fault : BlockFault) : Type 0 where
  pub answers : answers_of answer so_far.text ≡ record { texts = so_far.sent; fault = Some fault }
  pub stays : (later : Text) → so_far.left ≡ Some later → answers_of answer (so_far.text ++ later) ≡ record { texts = so_far.sent; fault = Some fault }
  pub numbered : number ≡ number_after (length so_far.sent)

-- All bytes of the input were read, no block of them is faulty, and all answers are sent.
pub record IsAnswered (answer : EventValue → Text) (so_far : Progress) (now : SinkState) : Type 0 where
  pub answers : answers_of answer so_far.text ≡ well so_far.sent
  pub none_left : NoneLeft so_far.left
  pub untouched : now ≡ so_far.after

-- How it ends, by what was read and sent and the sink at the end: all is answered; or what was read until then is, and no more could be
-- read; or it stops in an answer, at a faulty block, or because memory runs out.
abbrev pub EndsBy : (EventValue → Text) → Result (Unit {0}) TurnFault → (so_far : Progress) → (now : SinkState) → Type 0
EndsBy answer (Ok done) so_far now = IsAnswered answer so_far now
EndsBy answer (Err Read) so_far now = (answers_to answer (complete_runs so_far.text) ≡ well so_far.sent) × (now ≡ so_far.after)
EndsBy answer (Err Write) so_far now = BreaksOffAfter so_far.sent (answers_of answer so_far.text).texts so_far.after now
EndsBy answer (Err (Session (Block number fault))) so_far now = StopsAtBlock answer so_far number fault × (now ≡ so_far.after)
EndsBy answer (Err (Session Memory)) so_far now = AreFirstOf so_far.sent (answers_of answer so_far.text).texts × (now ≡ so_far.after)
EndsBy answer (Err (Session Ended)) so_far now = ⊥

-- So many reads were made from the input, and none failed.
pub record ReadsWell (turns : ℕ) (before now : SourceState) : Type 0 where
  pub reads : Counts turns before.reads now.reads
  pub well : now.faults ≡ before.faults

-- So many reads were made from the input, and then one more, which failed.
pub record ReadsToFault (turns : ℕ) (before now : SourceState) : Type 0 where
  pub reads : Counts (turns + 1) before.reads now.reads
  pub failed : Counts 1 before.faults now.faults

-- All turns over the input were used up: that many pieces were read, by that many reads.
pub record UsesUp (turns : ℕ) (before now : SourceState) : Type 0 where
  pub all : turns ≡ most_turns
  pub reads : Counts most_turns before.reads now.reads

-- How many reads were made from the input, and how many failed: each piece is one read; if no more could be read, one
-- more was made and failed, or all turns were used up.
abbrev pub CountsBy : Result (Unit {0}) TurnFault → ℕ → SourceState → SourceState → Type 0
CountsBy (Err Read) turns before now = ReadsToFault turns before now ⊎ (UsesUp turns before now × (now.faults ≡ before.faults))
CountsBy _ turns before now = ReadsWell turns before now

-- What is read from an input in pieces, none of them after its end, which of its answers are sent (written and flushed, and
-- none of those calls failed), and how it ends.
pub record AnswersInput (answer : EventValue → Text) (end : Result (Unit {0}) TurnFault) (before now : Devices) : Type 0 where
  pub read : List Text
  pub pieces : now.input.pieces ≡ followed_by before.input.pieces read
  pub left : before.input.left ≡ led_by (joined read) now.input.left
  pub counts : CountsBy end (length read) before.input now.input
  pub goes_on : BeforeReads GoesOn read before.input now.input
  pub fits : HoldsFew read
  pub sent : List Text
  pub after : SinkState
  pub sends : Sends before.output sent after
  pub due : HasSentDue answer read sent
  pub ends : EndsBy answer end (record { text = joined read; left = now.input.left; sent = sent; after = after }) now.output
