use Rattle.std.proofs.Common.{◌≡◌, ◌++◌, flat_map, take}
use Rattle.rule_lints.specs.RuleLints.{spots_with, word_of}
use Rattle.rule_lints.proofs.lints.add.Given as goal

abbrev pub invariant-loop-written : goal.invariant-loop-written
invariant-loop-written l =
    l.spots.items ≡ l.initial.spots.items ++ flat_map (λ w. spots_with l.lint w.token (word_of l.profile l.lint w)) (take l.written-index l.tokens)
