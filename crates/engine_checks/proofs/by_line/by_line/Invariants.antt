use Rattle.std.proofs.Common.{◌≡◌, ◌++◌, List}
use Rattle.rule_remarks.specs.ByLine.{by_line}
use Rattle.engine_formats.specs.declared.diagnostic.Diagnostic.{Diagnostic}
use Rattle.engine_checks.proofs.by_line.by_line.Given as goal

abbrev pub invariant-loop-diagnostic : goal.invariant-loop-diagnostic
invariant-loop-diagnostic l = (left : List Diagnostic) → l.all.items ++ by_line (λ d. d.begins) left l.rest.items ≡ by_line (λ d. d.begins) (l.yielded ++ left) l.fn.others.items

abbrev pub invariant-loop-other : goal.invariant-loop-other
invariant-loop-other l = l.all.items ≡ l.initial.all.items ++ l.yielded
