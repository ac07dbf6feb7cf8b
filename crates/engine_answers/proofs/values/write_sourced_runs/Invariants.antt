use Rattle.std.proofs.Common.{◌≡◌, ◌++◌, take}
use Rattle.text_json.specs.Listed.{value_tokens}
use Rattle.engine_answers.specs.Members.{sourced_runs}
use Rattle.engine_answers.proofs.values.write_sourced_runs.Given as goal

abbrev pub invariant-loop-found : goal.invariant-loop-found
invariant-loop-found l = record {
  tokens : l.writer.tokens ≡ l.initial.writer.tokens ++ value_tokens (sourced_runs (take l.found-index l.commands));
  before : l.writer.before ≡ l.initial.writer.before;
}
