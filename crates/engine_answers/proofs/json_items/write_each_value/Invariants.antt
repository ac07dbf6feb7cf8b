use Rattle.std.proofs.Common.{◌≡◌, ◌++◌, map, option_map}
use Rattle.std.specs.Cow.{cow_slice_items}
use Rattle.text_json.specs.Listed.{member_tokens}
use Rattle.engine_answers.specs.Members.{value_members}
use Rattle.engine_answers.specs.JsonInner.{shape_of}
use Rattle.engine_answers.proofs.json_items.write_each_value.Given as goal

abbrev pub invariant-loop-name : goal.invariant-loop-name
invariant-loop-name l = record {
  tokens : l.writer.tokens ++ member_tokens (value_members (shape_of (option_map (λ s. s.now) l.sources)) l.word (map (λ e. (cow_slice_items e.0, cow_slice_items e.1)) l.name-iterator)) ≡ l.initial.writer.tokens ++ member_tokens (value_members (shape_of (option_map (λ s. s.now) l.sources)) l.word l.fn.pairs);
  before : l.writer.before ≡ l.initial.writer.before;
}
