-- Calls of `take` in a row, each with what is passed to it: pieces of an input, and what is left of them.
use Rattle.std.specs.Prelude.{◌≡◌, ◌<◌, List, ℕ, [], ◌∷◌, ◌++◌, length, take}
use Rattle.text_bytes.specs.Text.{Text}
use Rattle.device_core.specs.Runs.{complete_runs, rest_of, runs}
use Rattle.device_core.specs.RunBlocks.{blocks_of, is_too_long, most_bytes, line_of_excess}
use Rattle.device_core.specs.Splits.{Split, SplitTakes, completed}
use Rattle.device_core.specs.declared.splitter.Taken.{Taken}

-- a call: the piece, its outcome, and the splitter after it
pub record Call : Type 0 where
  pub piece : Text
  pub taken : Taken
  pub after : Split

-- each call goes on where the one before it stopped
abbrev pub TakesAll : Split → List Call → Split → Type 0
TakesAll old [] new = old ≡ new
TakesAll old (call ∷ calls) new = SplitTakes old call.piece call.taken call.after × TakesAll call.after calls new

-- all bytes that the calls used, in order
abbrev pub used_by : List Call → Text
used_by [] = []
used_by (call ∷ calls) = take call.taken.used call.piece ++ used_by calls

-- all blocks that they gave, in order
abbrev pub given_by : List Call → List Text
given_by [] = []
given_by (call ∷ calls) = completed call.taken.whole call.after.block ++ given_by calls

-- The blocks given are the complete runs of the bytes used, and the rest is pending.
pub record GiveRuns (calls : List Call) (now : Split) : Type 0 where
  pub given : given_by calls ≡ complete_runs (used_by calls)
  pub pending : now.pending ≡ rest_of (used_by calls)

-- The blocks given, with that at the end, are the runs of the bytes used: none was too long to be one.
pub record GiveAll (calls : List Call) (last : List Text) : Type 0 where
  pub runs_are : given_by calls ++ last ≡ runs (used_by calls)
  pub blocks_are : given_by calls ++ last ≡ blocks_of is_too_long (used_by calls)

-- The blocks of the input are these and one more, which is too long, with its first excess byte in this line.
pub record EndsTooLong (input : Text) (blocks : List Text) (line : ℕ) : Type 0 where
  pub last : Text
  pub are : blocks_of is_too_long input ≡ blocks ++ last ∷ []
  pub too_long : most_bytes < length last
  pub counted : line ≡ line_of_excess last
