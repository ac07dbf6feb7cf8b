use Rattle.std.proofs.Common.{map}
use Rattle.text_json.specs.Told.{told}
use Rattle.text_json.proofs.Listed.{array_after}
use Rattle.engine_answers.proofs.objects.write_lines.Goals as goal

pub returns-clause-tokens : goal.returns-clause-tokens
returns-clause-tokens c =
    rw (
      c.in_ok-end_array.ensures.ok,
      c.in_ok-write_each_line.ensures.tokens,
      c.in_ok-begin_array.ensures.ok,
      c.in_ok-key.ensures.ok,
    )
    (array_after c.args.writer.now.tokens c.args.key.now (map told (map (λ l. l.1.now) c.args.lines.now)))
