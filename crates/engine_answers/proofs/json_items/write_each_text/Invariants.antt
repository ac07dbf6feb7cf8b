use Rattle.std.proofs.Common.{◌≡◌, ◌++◌, map, take, option_map}
use Rattle.text_json.specs.Listed.{value_tokens}
use Rattle.engine_answers.specs.Members.{text_values}
use Rattle.engine_answers.specs.JsonInner.{shape_of}
use Rattle.engine_answers.proofs.json_items.write_each_text.Given as goal

abbrev pub invariant-loop-text : goal.invariant-loop-text
invariant-loop-text l = record {
  tokens : l.writer.tokens ≡ l.initial.writer.tokens ++ value_tokens (text_values (shape_of (option_map (λ s. s.now) l.sources)) l.word (map (λ t. t.items) (take l.text-index l.text-items)));
  before : l.writer.before ≡ l.initial.writer.before;
}
