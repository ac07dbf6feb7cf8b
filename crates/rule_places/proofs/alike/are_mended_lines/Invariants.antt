use Rattle.std.proofs.Common.{◌≡◌, length}
use Rattle.std.specs.Cmp.Lexicographic.{pointwise}
use Rattle.rule_places.specs.Alike.{is_mended_line}
use Rattle.rule_places.proofs.alike.are_mended_lines.Given as goal

abbrev pub invariant-loop-line : goal.invariant-loop-line
invariant-loop-line l = pointwise is_mended_line l.rest l.own ≡ pointwise is_mended_line l.fn.old l.fn.new

abbrev pub decreases-loop-line : goal.decreases-loop-line
decreases-loop-line l = length l.rest
