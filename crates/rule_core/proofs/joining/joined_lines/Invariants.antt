use Rattle.std.proofs.Common.{◌≡◌, length}
use Rattle.rule_core.specs.Lines.{joined_lines, lines}
use Rattle.rule_core.proofs.Walking.{with_lines}
use Rattle.rule_core.proofs.joining.joined_lines.Given as goal

abbrev pub invariant-loop-line : goal.invariant-loop-line
invariant-loop-line l = with_lines l.profile (length (lines l.bytes)) l.joining l.line-iterator ≡ joined_lines l.profile l.bytes
