-- The keys that no longer change.
use Rattle.std.specs.Prelude.{Bool, false, ◌||◌}
use Rattle.eval_state.specs.contracts.finals.FinalKeyPartialEq.TheImpl.{ghosts}
use Rattle.eval_state.specs.declared.finals.FinalKey.{FinalKey}

-- for each key whether it no longer changes
abbrev pub Finals : Type 0
Finals = FinalKey → Bool

-- all keys may change
abbrev pub no_finals : Finals
no_finals key = false

-- whether a key no longer changes
abbrev pub is_final : Finals → FinalKey → Bool
is_final finals key = finals key

-- the keys that no longer change, with one more; keys are compared as `FinalKey` derives it
abbrev pub made_final : Finals → FinalKey → Finals
made_final finals one key = ghosts.eq one key || finals key
