use Rattle.std.proofs.Common.{◌≡◌, ◌++◌, drop, map}
use Rattle.builtin_link.specs.Checks.{condition_check}
use Rattle.builtin_link.proofs.keys.add_conditions.Given as goal

abbrev pub invariant-loop-condition : goal.invariant-loop-condition
invariant-loop-condition l =
    l.checks.items ++ map (condition_check l.event l.settings) (map (λ condition. (condition.0.now, condition.1)) (drop l.condition-index l.conditions))
    ≡ l.fn.checks.items ++ map (condition_check l.event l.settings) (map (λ condition. (condition.0.now, condition.1)) l.conditions)
