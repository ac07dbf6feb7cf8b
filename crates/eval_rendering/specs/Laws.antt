-- What the search finds, stated without its order.
use Rattle.std.specs.Prelude.{◌≡◌, ℕ, ◌<◌, true, false, List, length}
use Rattle.std.specs.List.{list_all}
use Rattle.device_core.specs.Values.{chain}
use Rattle.rule_types.specs.declared.part.UpMatch.{UpMatch}
use Rattle.eval_state.specs.declared.state.State.{State}
use Rattle.eval_rendering.specs.Subjects.{holds_at}

-- The device at a place of the chain meets all of these matches, and none before it does.
pub record IsFirstToMeet (parts : List UpMatch) (state : State) (place : ℕ) : Type 0 where
  pub in_chain : place < length (chain state.event)
  pub meets : list_all (holds_at state place) parts ≡ true
  pub first : (earlier : ℕ) → earlier < place → list_all (holds_at state earlier) parts ≡ false

-- No device of the chain meets all of these matches.
abbrev pub NoneMeets : List UpMatch → State → Type 0
NoneMeets parts state = (place : ℕ) → place < length (chain state.event) → list_all (holds_at state place) parts ≡ false
