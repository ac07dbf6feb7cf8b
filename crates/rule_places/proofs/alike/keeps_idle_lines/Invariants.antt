use Rattle.std.proofs.Common.{◌≡◌}
use Rattle.std.specs.Cmp.Lexicographic.{pointwise}
use Rattle.rule_places.specs.Alike.{same_if_idle}
use Rattle.rule_places.specs.WholeLines.{whole_lines}
use Rattle.rule_places.proofs.alike.keeps_idle_lines.Given as goal

abbrev pub invariant-loop-line : goal.invariant-loop-line
invariant-loop-line l = pointwise same_if_idle l.line-iterator l.rest ≡ pointwise same_if_idle (whole_lines l.old) (whole_lines l.new)
