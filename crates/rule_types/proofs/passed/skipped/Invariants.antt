use Rattle.std.proofs.Common.{map}
use Rattle.rule_types.proofs.Counting.{Ascends}
use Rattle.rule_types.proofs.passed.skipped.Given as goal

abbrev pub invariant-loop-rule : goal.invariant-loop-rule
invariant-loop-rule l = Ascends l.labels l.counts.items (map (λ r. r.now) l.yielded)
