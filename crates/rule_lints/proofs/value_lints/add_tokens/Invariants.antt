use Rattle.std.proofs.Common.{◌≡◌, ◌++◌, take}
use Rattle.rule_lints.specs.ValueLints.{found_by}
use Rattle.rule_lints.proofs.value_lints.add_tokens.Given as goal

abbrev pub invariant-loop-written : goal.invariant-loop-written
invariant-loop-written l = l.spots.items ≡ l.initial.spots.items ++ found_by l.setting (take l.written-index l.tokens)
