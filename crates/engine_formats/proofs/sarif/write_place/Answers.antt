use Rattle.std.proofs.Common.{append_assoc}
use Rattle.engine_formats.proofs.sarif.write_place.Goals as goal

pub returns-clause-tokens : goal.returns-clause-tokens
returns-clause-tokens c =
    rw (
      c.in_ok-end_object-3.ensures.ok,
      c.in_ok-end_object-2.ensures.ok,
      c.in_ok-write_region.ensures.tokens,
      c.in_ok-key-3.ensures.ok,
      c.in_ok-end_object.ensures.ok,
      c.in_ok-write_text.ensures.tokens,
      c.in_ok-begin_object-3.ensures.ok,
      c.in_ok-key-2.ensures.ok,
      c.in_ok-begin_object-2.ensures.ok,
      c.in_ok-key.ensures.ok,
      c.in_ok-begin_object.ensures.ok,
      c.deref.ensures.value,
      c.in_ok-uri.ensures,
    )
    (simp append_assoc)
