use Rattle.std.proofs.Common.{◌≡◌, ◌++◌, take}
use Rattle.engine_answers.specs.Answers.{command_lines, lines_after, source_part}
use Rattle.engine_answers.proofs.answers.push_sourced_runs.Given as goal

abbrev pub invariant-loop-found : goal.invariant-loop-found
invariant-loop-found l = l.lines.items ≡ l.initial.lines.items ++ lines_after source_part (command_lines (take l.found-index l.commands))
