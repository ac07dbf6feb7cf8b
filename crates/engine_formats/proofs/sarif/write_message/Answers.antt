use Rattle.std.proofs.Common.{append_assoc}
use Rattle.engine_formats.proofs.sarif.write_message.Goals as goal

pub returns-clause-tokens : goal.returns-clause-tokens
returns-clause-tokens c =
    rw (
      c.in_ok-end_object.ensures.ok,
      c.in_ok-write_text.ensures.tokens,
      c.in_ok-begin_object.ensures.ok,
      c.in_ok-key.ensures.ok,
      c.deref.ensures.value,
      c.in_ok-said.ensures,
    )
    (simp append_assoc)
