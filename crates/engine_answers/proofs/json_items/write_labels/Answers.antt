use Rattle.std.proofs.Common.{codes, option_map}
use Rattle.text_json.proofs.Listed.{array_after}
use Rattle.engine_answers.specs.Members.{label_values}
use Rattle.engine_answers.specs.JsonInner.{shape_of}
use Rattle.engine_answers.proofs.json_items.write_labels.Goals as goal

pub returns-clause-tokens : goal.returns-clause-tokens
returns-clause-tokens c =
    rw (
      c.in_ok-end_array.ensures.ok,
      c.in_ok-write_each_label.ensures.tokens,
      c.in_ok-begin_array.ensures.ok,
      c.in_ok-key.ensures.ok,
    )
    (array_after c.args.writer.now.tokens (codes "labels") (label_values (shape_of (option_map (λ s. s.now) c.args.sources)) c.args.profile c.args.labels.now))
