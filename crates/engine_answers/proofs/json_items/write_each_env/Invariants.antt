use Rattle.std.proofs.Common.{◌≡◌, ◌++◌, drop, option_map}
use Rattle.text_json.specs.Listed.{member_tokens}
use Rattle.engine_answers.specs.Members.{env_members}
use Rattle.engine_answers.specs.JsonInner.{shape_of}
use Rattle.engine_answers.proofs.json_items.write_each_env.Given as goal

abbrev pub invariant-loop-place : goal.invariant-loop-place
invariant-loop-place l = record {
  tokens : l.writer.tokens ++ member_tokens (env_members (shape_of (option_map (λ s. s.now) l.sources)) (drop l.place l.fn.pairs)) ≡ l.initial.writer.tokens ++ member_tokens (env_members (shape_of (option_map (λ s. s.now) l.sources)) l.fn.pairs);
  before : l.writer.before ≡ l.initial.writer.before;
}
