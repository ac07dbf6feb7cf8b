use Rattle.std.proofs.Common.{append_assoc}
use Rattle.engine_formats.proofs.gitlab.write_location.Goals as goal

pub returns-clause-tokens : goal.returns-clause-tokens
returns-clause-tokens c =
    rw (
      c.in_ok-end_object-2.ensures.ok,
      c.in_ok-end_object.ensures.ok,
      c.in_ok-write_number.ensures.tokens,
      c.in_ok-begin_object-2.ensures.ok,
      c.in_ok-key.ensures.ok,
      c.in_ok-write_text.ensures.tokens,
      c.in_ok-begin_object.ensures.ok,
    )
    (simp append_assoc)
