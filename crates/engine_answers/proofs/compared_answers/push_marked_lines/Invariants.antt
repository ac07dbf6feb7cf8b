use Rattle.std.proofs.Common.{◌≡◌, ◌++◌, take, map}
use Rattle.engine_answers.specs.Differences.{marked_lines}
use Rattle.engine_answers.proofs.compared_answers.push_marked_lines.Given as goal

abbrev pub invariant-loop-shown : goal.invariant-loop-shown
invariant-loop-shown l = l.text.items ≡ l.initial.text.items ++ marked_lines l.mark (map (λ p. p.1.now) (take l.shown-index l.lines))
