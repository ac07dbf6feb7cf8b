use Rattle.std.proofs.Common.{◌≡◌, ◌++◌, map, take}
use Rattle.text_json.specs.Listed.{value_tokens}
use Rattle.engine_answers.specs.Members.{run_value}
use Rattle.engine_answers.proofs.values.write_runs.Given as goal

abbrev pub invariant-loop-command : goal.invariant-loop-command
invariant-loop-command l = record {
  tokens : l.writer.tokens ≡ l.initial.writer.tokens ++ value_tokens (map run_value (take l.command-index l.command-items));
  before : l.writer.before ≡ l.initial.writer.before;
}
