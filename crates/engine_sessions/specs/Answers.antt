-- The answers to the blocks of an input.
use Rattle.std.specs.Prelude.{ℕ, ◌+◌, ◌-◌, ◌^◌, List, [], ◌∷◌, Option, Some, None, Result, Ok, Err, min}
use Rattle.text_bytes.specs.Text.{Text}
use Rattle.device_core.specs.Runs.{runs}
use Rattle.device_core.specs.Values.{EventValue}
use Rattle.device_core.specs.Faults.{block_gives}
use Rattle.device_core.specs.declared.faults.BlockFault.{BlockFault}

-- the answers to blocks, in order, and what is wrong with the block after those answered, if one is faulty
pub record Answers : Type 0 where
  pub texts : List Text
  pub fault : Option BlockFault

-- answers to blocks, none of which is faulty
abbrev pub well : List Text → Answers
well texts = record { texts = texts; fault = None }

-- the answers to a block and those after it: its own in front of theirs if it gives an event, and none if it is
-- faulty
abbrev pub with_block : (EventValue → Text) → Result EventValue BlockFault → Answers → Answers
with_block answer (Ok event) following = record { texts = answer event ∷ following.texts; fault = following.fault }
with_block answer (Err fault) following = record { texts = []; fault = Some fault }

-- the answers to blocks: to the event of each, up to the first that is faulty, and then its fault
abbrev pub answers_to : (EventValue → Text) → List Text → Answers
answers_to answer [] = well []
answers_to answer (block ∷ blocks) = with_block answer (block_gives block) (answers_to answer blocks)

-- the answers to a whole input, which are those to its blocks
abbrev pub answers_of : (EventValue → Text) → Text → Answers
answers_of answer input = answers_to answer (runs input)

-- a count of blocks, at most the greatest u64
abbrev pub counted : ℕ → ℕ
counted blocks = min blocks (2 ^ 64 - 1)

-- the number of the block after those answered, counted from 1
abbrev pub number_after : ℕ → ℕ
number_after answered = counted (answered + 1)
