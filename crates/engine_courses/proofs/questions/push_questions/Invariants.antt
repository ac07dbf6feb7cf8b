use Rattle.std.proofs.Common.{◌≡◌, ◌++◌, take, map}
use Rattle.engine_courses.specs.Questions.{question_lines}
use Rattle.engine_courses.proofs.questions.push_questions.Given as goal

abbrev pub invariant-loop-command : goal.invariant-loop-command
invariant-loop-command l = l.lines.items ≡ l.initial.lines.items ++ question_lines (map (λ t. t.items) (take l.command-index l.command-items))
