use Rattle.std.proofs.Common.{◌≡◌, ◌++◌, length}
use Rattle.text_bytes.specs.Lines.{lines}
use Rattle.engine_answers.specs.Differences.{marked_lines, marked_text}
use Rattle.engine_answers.proofs.compared_answers.marked.Given as goal

abbrev pub invariant-loop-rest : goal.invariant-loop-rest
invariant-loop-rest l = l.marked.items ++ marked_lines l.mark (lines l.rest) ≡ marked_text l.mark l.text

abbrev pub decreases-loop-rest : goal.decreases-loop-rest
decreases-loop-rest l = length l.rest
