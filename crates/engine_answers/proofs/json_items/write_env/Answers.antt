use Rattle.std.proofs.Common.{codes, option_map}
use Rattle.text_json.proofs.Listed.{object_after}
use Rattle.engine_answers.specs.Members.{env_members}
use Rattle.engine_answers.specs.JsonInner.{shape_of}
use Rattle.engine_answers.proofs.json_items.write_env.Goals as goal

pub returns-clause-tokens : goal.returns-clause-tokens
returns-clause-tokens c =
    rw (
      c.in_ok-end_object.ensures.ok,
      c.in_ok-write_each_env.ensures.tokens,
      c.in_ok-begin_object.ensures.ok,
      c.in_ok-key.ensures.ok,
    )
    (object_after c.args.writer.now.tokens (codes "env") (env_members (shape_of (option_map (λ s. s.now) c.args.sources)) c.args.pairs.now))
