use Rattle.std.proofs.Common.{◌≡◌, ◌++◌, flat_map, take}
use Rattle.engine_answers.specs.Lines.{run_line}
use Rattle.engine_answers.proofs.answers.push_runs.Given as goal

abbrev pub invariant-loop-command : goal.invariant-loop-command
invariant-loop-command l = l.lines.items ≡ l.initial.lines.items ++ flat_map run_line (take l.command-index l.command-items)
