use Rattle.std.proofs.Common.{◌≡◌, ◌++◌, length}
use Rattle.rule_remarks.specs.ByLine.{before, from_line}
use Rattle.engine_checks.proofs.by_line.move_before.Given as goal

abbrev pub invariant-loop-other : goal.invariant-loop-other
invariant-loop-other l = record {
  moved : l.all.items ++ before (λ d. d.begins) l.rest.items l.line ≡ l.initial.all.items ++ before (λ d. d.begins) l.initial.rest.items l.line;
  left : from_line (λ d. d.begins) l.rest.items l.line ≡ from_line (λ d. d.begins) l.initial.rest.items l.line;
}

abbrev pub decreases-loop-other : goal.decreases-loop-other
decreases-loop-other l = length l.rest.items
