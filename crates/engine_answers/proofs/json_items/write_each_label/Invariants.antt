use Rattle.std.proofs.Common.{◌≡◌, ◌++◌, take, option_map}
use Rattle.text_json.specs.Listed.{value_tokens}
use Rattle.engine_answers.specs.Members.{label_values}
use Rattle.engine_answers.specs.JsonInner.{shape_of}
use Rattle.engine_answers.proofs.json_items.write_each_label.Given as goal

abbrev pub invariant-loop-label : goal.invariant-loop-label
invariant-loop-label l = record {
  tokens : l.writer.tokens ≡ l.initial.writer.tokens ++ value_tokens (label_values (shape_of (option_map (λ s. s.now) l.sources)) l.profile (take l.label-index l.labels));
  before : l.writer.before ≡ l.initial.writer.before;
}
