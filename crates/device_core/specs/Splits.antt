-- What a splitter is to its callers, and what its calls do.
use Rattle.std.specs.Prelude.{◌≡◌, ◌≢◌, ◌↔◌, ℕ, ◌<◌, ◌≤◌, Bool, true, false, IsTrue, List, [], ◌∷◌, ◌++◌, length, take}
use Rattle.text_bytes.specs.Text.{Text}
use Rattle.device_core.specs.Runs.{complete_runs, rest_of, runs}
use Rattle.device_core.specs.RunBlocks.{most_bytes, line_of_excess}
use Rattle.device_core.specs.declared.splitter.Taken.{Taken}
use Rattle.device_core.specs.declared.splitter.SplitFault.{SplitFault}
use Rattle.device_core.specs.declared.splitter.SplitFault.TheVariants.{TooLong, Ended}

-- the bytes taken from a run that is not complete, the complete block, and whether no more is taken
pub record Split : Type 0 where
  pub pending : Text
  pub block : Text
  pub ended : Bool

-- at an input's start
abbrev pub opened : Split
opened = record { pending = []; block = []; ended = false }

-- nothing is held, there is no block, and no more is taken
abbrev pub closed : Split
closed = record { pending = []; block = []; ended = true }

-- the block, if one is complete
abbrev pub completed : Bool → Text → List Text
completed true block = block ∷ []
completed false block = []

-- What `take` does: it uses the piece up to the end of the first block completed, or else all of it.
-- Of the pending bytes followed by those used, the block is the only complete run, and the new pending
-- bytes are the rest.
pub record SplitTakes (old : Split) (piece : Text) (taken : Taken) (new : Split) : Type 0 where
  pub used : taken.used ≤ length piece
  pub complete : complete_runs (old.pending ++ take taken.used piece) ≡ completed taken.whole new.block
  pub pending : rest_of (old.pending ++ take taken.used piece) ≡ new.pending
  pub first : (n : ℕ) → n < taken.used → complete_runs (old.pending ++ take n piece) ≡ []
  pub all : taken.whole ≡ false → (taken.used ≡ length piece) × (new.block ≡ [])
  pub pending_fits : length new.pending ≤ most_bytes
  pub block_fits : length new.block ≤ most_bytes
  pub moves : 0 < length piece → 0 < taken.used
  pub proceeds : (old.ended ≡ false) × (new.ended ≡ false)

-- The first run of the text has more bytes than a block may have, and its first excess byte is in this line.
pub record BeginsTooLong (text : Text) (line : ℕ) : Type 0 where
  pub run : Text
  pub others : List Text
  pub found : runs text ≡ run ∷ others
  pub too_long : most_bytes < length run
  pub counted : line ≡ line_of_excess run

-- What `take` does if it fails. The run that begins with the pending bytes and goes on with the
-- piece is too long, whatever comes after the piece; or the input had ended.
abbrev pub SplitFailsBy : SplitFault → Split → Text → Split → Type 0
SplitFailsBy (TooLong line) old piece new = ((later : Text) → BeginsTooLong (old.pending ++ piece ++ later) line) × (old.ended ≡ false) × (new ≡ closed)
SplitFailsBy Ended old piece new = (old.ended ≡ true) × (new ≡ closed)

-- What `end` does: the pending bytes are the last block, if there are any.
pub record SplitEnds (old : Split) (some : Bool) (new : Split) : Type 0 where
  pub proceeds : old.ended ≡ false
  pub gives : new ≡ record { pending = []; block = old.pending; ended = true }
  pub fits : length old.pending ≤ most_bytes
  pub answers : IsTrue some ↔ (old.pending ≢ [])

-- What `end` does if it fails: the input had ended before.
pub record HadEnded (fault : SplitFault) (old new : Split) : Type 0 where
  pub is : fault ≡ Ended
  pub ended : old.ended ≡ true
  pub closes : new ≡ closed
