use Rattle.std.proofs.Common.{◌≡◌, ◌++◌, length, map, filter}
use Rattle.text_bytes.specs.Lines.{lines}
use Rattle.text_tables.specs.Surplus.{ShownLine, line_of}
use Rattle.engine_answers.specs.Differences.{beside, is_compared, shown_lines}
use Rattle.engine_answers.proofs.compared_answers.shown_lines.Given as goal

abbrev pub invariant-loop-rest : goal.invariant-loop-rest
invariant-loop-rest l =
    map {B = ShownLine} (λ p. (p.0.now, p.1.now)) l.lines.items ++ filter (λ p. is_compared (line_of p)) (beside (lines l.rest) (lines l.others)) ≡ shown_lines (l.answer.0.now, l.answer.1.now)

abbrev pub decreases-loop-rest : goal.decreases-loop-rest
decreases-loop-rest l = length l.rest
