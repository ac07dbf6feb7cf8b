use Rattle.std.proofs.Common.{◌≡◌, ◌++◌, take}
use Rattle.rule_lints.specs.ValueLints.{found_in}
use Rattle.rule_lints.proofs.value_lints.add_lints.Given as goal

abbrev pub invariant-loop-lint : goal.invariant-loop-lint
invariant-loop-lint l = l.spots.items ≡ l.initial.spots.items ++ found_in l.setting l.written (take l.lint-index l.lints)
