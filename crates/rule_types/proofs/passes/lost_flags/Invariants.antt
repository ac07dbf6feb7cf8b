use Rattle.std.proofs.Common.{map}
use Rattle.rule_types.proofs.Passing.{Ascends}
use Rattle.rule_types.proofs.passes.lost_flags.Given as goal

abbrev pub invariant-loop-rule : goal.invariant-loop-rule
invariant-loop-rule l = Ascends l.below l.flags.items (map (λ r. r.now) l.yielded)
