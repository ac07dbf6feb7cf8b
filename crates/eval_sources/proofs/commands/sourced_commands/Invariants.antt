use Rattle.std.proofs.Common.{◌≡◌, ◌++◌, None, drop}
use Rattle.eval_rules.specs.Steps.{with_selected}
use Rattle.eval_sources.specs.Reported.{sourced_commands}
use Rattle.eval_sources.proofs.commands.sourced_commands.Given as goal

abbrev pub invariant-loop-kept : goal.invariant-loop-kept
invariant-loop-kept l = record {
  done : l.done.items ++ sourced_commands l.state (drop l.kept-index l.runs) ≡ sourced_commands l.fn.state l.fn.runs;
  rest : with_selected None l.state ≡ with_selected None l.fn.state;
}
