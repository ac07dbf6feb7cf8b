use Rattle.std.proofs.Common.{◌≡◌, ◌++◌, length}
use Rattle.text_json.specs.Listed.{value_tokens}
use Rattle.engine_answers.specs.Members.{why_values}
use Rattle.engine_answers.proofs.values.write_why.Given as goal

abbrev pub invariant-loop-rest : goal.invariant-loop-rest
invariant-loop-rest l = record {
  tokens : l.writer.tokens ++ value_tokens (why_values l.rest) ≡ l.initial.writer.tokens ++ value_tokens (why_values l.fn.why);
  before : l.writer.before ≡ l.initial.writer.before;
}

abbrev pub decreases-loop-rest : goal.decreases-loop-rest
decreases-loop-rest l = length l.rest
