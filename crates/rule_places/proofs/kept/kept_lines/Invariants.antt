use Rattle.std.proofs.Common.{◌≡◌, ◌++◌}
use Rattle.rule_places.specs.Kept.{kept_from, kept_lines}
use Rattle.rule_places.proofs.kept.kept_lines.Given as goal

abbrev pub invariant-loop-line : goal.invariant-loop-line
invariant-loop-line l = l.lines.items ++ kept_from l.start l.line-iterator ≡ kept_lines l.bytes
