-- The rule since which each key is final: the first one after which the key no longer changes.
use Rattle.std.specs.Prelude.{Option, None}
use Rattle.std.specs.Option.{option_or}
use Rattle.std.specs.Bool.{then_some}
use Rattle.rule_types.specs.Rules.{Rule}
use Rattle.eval_state.specs.Finals.{is_final}
use Rattle.eval_state.specs.declared.finals.FinalKey.{FinalKey}
use Rattle.eval_state.specs.declared.finals.Finals.{Finals}

-- for each key the rule since which it is final, if it is final
abbrev pub Since : Type 0
Since = FinalKey → Option Rule

-- all keys may change
abbrev pub no_since : Since
no_since key = None

-- after one more rule and the keys that are final after it: the rule that is known, or that rule if the key is final now
abbrev pub since_after : Since → Rule → Finals → Since
since_after since r finals key = option_or (since key) (then_some (is_final finals key) r)
