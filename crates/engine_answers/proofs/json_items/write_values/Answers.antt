use Rattle.std.proofs.Common.{option_map}
use Rattle.text_json.proofs.Listed.{object_after}
use Rattle.engine_answers.specs.Members.{value_members}
use Rattle.engine_answers.specs.JsonInner.{shape_of}
use Rattle.engine_answers.proofs.json_items.write_values.Goals as goal

pub returns-clause-tokens : goal.returns-clause-tokens
returns-clause-tokens c =
    rw (
      c.in_ok-end_object.ensures.ok,
      c.in_ok-write_each_value.ensures.tokens,
      c.in_ok-begin_object.ensures.ok,
      c.in_ok-key.ensures.ok,
    )
    (object_after c.args.writer.now.tokens c.args.key.now (value_members (shape_of (option_map (λ s. s.now) c.args.sources)) c.args.word.now c.args.pairs.now))
