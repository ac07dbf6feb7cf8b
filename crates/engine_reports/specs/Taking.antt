-- For proofs only, no reader has to believe it: how lines are taken byte by byte and answered, and where that stops.
use Rattle.std.specs.Prelude.{◌≡◌, ℕ, ◌+◌, ◌≤◌, Bool, true, false, List, [], ◌∷◌, ◌++◌, flat_map, length}
use Rattle.text_bytes.specs.Lines.{lines}
use Rattle.text_bytes.specs.Text.{Text}
use Rattle.device_core.specs.RunBlocks.{newline_count}
use Rattle.engine_sessions.specs.Sinks.{BreaksOff, SinkState}
use Rattle.engine_sessions.specs.Serves.{WritesOut}
use Rattle.engine_reports.specs.LookupOutcomes.{after_answer, answered_from, is_too_long, most_bytes}
use Rattle.engine_reports.specs.declared.held.LookupFault.{LookupFault}
use Rattle.engine_reports.specs.declared.held.LookupFault.TheVariants.{Read, Write, TooLong, Memory}

-- the line that has not ended: its number and its bytes so far
pub record HeldLine : Type 0 where
  pub number : ℕ
  pub bytes : Text

-- nothing yet of the first line
abbrev pub first_line : HeldLine
first_line = record { number = 1; bytes = [] }

-- it has no newline, and no more bytes than a line may have
pub record IsOpen (held : HeldLine) : Type 0 where
  pub none : newline_count held.bytes ≡ 0
  pub fits : length held.bytes ≤ most_bytes

-- A text is these lines, each ended by a newline, and then a rest without one.
pub record Cut (text : Text) (ended : List Text) (rest : Text) : Type 0 where
  pub lines_are : (later : Text) → lines (text ++ later) ≡ ended ++ lines (rest ++ later)
  pub count : newline_count text ≡ length ended
  pub none : newline_count rest ≡ 0

-- each of these lines is answered, whatever follows them
abbrev pub Leads : (Text → Text) → List Text → Type 0
Leads answer ended = (number : ℕ) (others : List Text) → answered_from answer number (ended ++ others)
    ≡ after_answer (flat_map answer ended) (answered_from answer (number + length ended) others)

-- Some bytes were taken, and the lines that ended in them are answered.
pub record Answers (answer : Text → Text) (old : HeldLine) (part : Text) (now : HeldLine) (before sink : SinkState) : Type 0 where
  pub ended : List Text
  pub cut : Cut (old.bytes ++ part) ended now.bytes
  pub leads : Leads answer ended
  pub writes : WritesOut before (flat_map answer ended) sink
  pub number : now.number ≡ old.number + length ended
  pub fits : length now.bytes ≤ most_bytes

-- The output breaks off at the answer to the first of these lines.
pub record StopsInAnswer (answer : Text → Text) (lines : List Text) (after now : SinkState) : Type 0 where
  pub next : Text
  pub others : List Text
  pub lines_are : lines ≡ next ∷ others
  pub short : is_too_long next ≡ false
  pub breaks : BreaksOff after (answer next) now

-- The first of these lines has this number and is too long.
pub record StopsAtLong (counted number : ℕ) (lines : List Text) (after now : SinkState) : Type 0 where
  pub numbered : counted ≡ number
  pub line : Text
  pub others : List Text
  pub lines_are : lines ≡ line ∷ others
  pub long : is_too_long line ≡ true
  pub untouched : now ≡ after

-- why it stops before these lines, of which the first has this number
abbrev pub StopsBy : (Text → Text) → LookupFault → ℕ → List Text → SinkState → SinkState → Type 0
StopsBy answer Read number lines after now = ⊥
StopsBy answer Write number lines after now = StopsInAnswer answer lines after now
StopsBy answer (TooLong counted) number lines after now = StopsAtLong counted number lines after now
StopsBy answer Memory number lines after now = now ≡ after

-- It stops in this text, of which some lines are answered.
pub record StopsAt (answer : Text → Text) (fault : LookupFault) (number : ℕ) (ended : List Text) (text : Text) (after now : SinkState) : Type 0 where
  pub others : List Text
  pub lines_are : lines text ≡ ended ++ others
  pub stops : StopsBy answer fault (number + length ended) others after now

-- It stops in this text, of whose lines the first has this number; and in whatever begins with it, if the input may go on.
pub record StopsIn (answer : Text → Text) (fault : LookupFault) (more : Bool) (number : ℕ) (text : Text) (before now : SinkState) : Type 0 where
  pub ended : List Text
  pub leads : Leads answer ended
  pub after : SinkState
  pub writes : WritesOut before (flat_map answer ended) after
  pub at : (later : Text) → (more ≡ false → later ≡ []) → StopsAt answer fault number ended (text ++ later) after now

-- how the answering of one line fails: in the output, or because memory runs out
abbrev pub StopsInLine : LookupFault → Text → SinkState → SinkState → Type 0
StopsInLine Read text before now = ⊥
StopsInLine Write text before now = BreaksOff before text now
StopsInLine (TooLong counted) text before now = ⊥
StopsInLine Memory text before now = now ≡ before

-- why a line takes no byte more: it has all that it may have, or memory runs out
abbrev pub IsFull : LookupFault → HeldLine → Type 0
IsFull Read held = ⊥
IsFull Write held = ⊥
IsFull (TooLong counted) held = (counted ≡ held.number) × (most_bytes ≤ length held.bytes)
IsFull Memory held = Unit {0}
