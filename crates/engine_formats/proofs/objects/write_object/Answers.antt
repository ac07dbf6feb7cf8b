use Rattle.std.proofs.Common.{append_assoc}
use Rattle.engine_formats.proofs.objects.write_object.Goals as goal

pub returns-clause-tokens : goal.returns-clause-tokens
returns-clause-tokens c =
    rw (
      c.in_ok-end_object.ensures.ok,
      c.in_ok-write_word.ensures.tokens,
      c.in_ok-write_text-4.ensures.tokens,
      c.in_ok-write_text-3.ensures.tokens,
      c.in_ok-write_text-2.ensures.tokens,
      c.in_ok-write_number-3.ensures.tokens,
      c.in_ok-write_number-2.ensures.tokens,
      c.in_ok-write_number.ensures.tokens,
      c.in_ok-write_text.ensures.tokens,
      c.in_ok-begin_object.ensures.ok,
      c.word.ensures,
      c.severity.ensures,
      c.as_slice.ensures,
      c.text.ensures,
      c.code.ensures,
    )
    (simp append_assoc)
