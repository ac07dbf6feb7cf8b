use Rattle.std.proofs.Common.{◌≡◌, ◌++◌, map, take}
use Rattle.text_json.specs.Listed.{value_tokens}
use Rattle.text_json.specs.Told.{told}
use Rattle.engine_answers.proofs.objects.write_each_line.Given as goal

abbrev pub invariant-loop-shown : goal.invariant-loop-shown
invariant-loop-shown l = record {
  tokens : l.writer.tokens ≡ l.initial.writer.tokens ++ value_tokens (map told (map (λ p. p.1.now) (take l.shown-index l.lines)));
  before : l.writer.before ≡ l.initial.writer.before;
}
