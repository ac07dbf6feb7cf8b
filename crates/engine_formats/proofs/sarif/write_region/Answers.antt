use Rattle.std.proofs.Common.{append_assoc}
use Rattle.engine_formats.proofs.sarif.write_region.Goals as goal

pub returns-clause-tokens : goal.returns-clause-tokens
returns-clause-tokens c =
    rw (
      c.in_ok-end_object.ensures.ok,
      c.in_ok-write_number-3.ensures.tokens,
      c.in_ok-write_number-2.ensures.tokens,
      c.in_ok-write_number.ensures.tokens,
      c.in_ok-begin_object.ensures.ok,
      c.character_column-ends.ensures,
      c.move_to-begins.ensures.column,
    )
    (simp append_assoc)
