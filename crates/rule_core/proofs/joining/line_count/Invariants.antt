use Rattle.std.proofs.Common.{◌≡◌}
use Rattle.rule_core.specs.Lines.{lines, numbered_from}
use Rattle.rule_core.proofs.Counting.{number_after}
use Rattle.rule_core.proofs.joining.line_count.Given as goal

abbrev pub invariant-loop-line : goal.invariant-loop-line
invariant-loop-line l = number_after l.count l.line-iterator ≡ number_after 0 (numbered_from 1 (lines l.bytes))
