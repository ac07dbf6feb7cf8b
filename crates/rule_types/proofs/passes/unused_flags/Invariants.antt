use Rattle.rule_types.proofs.Passing.{Descends}
use Rattle.rule_types.proofs.passes.unused_flags.Given as goal

abbrev pub invariant-loop-rule : goal.invariant-loop-rule
invariant-loop-rule l = Descends l.waiting l.flags.items l.rules l.rule-index
