use Rattle.std.proofs.Common.{append_assoc}
use Rattle.engine_formats.specs.Tokens.{result_tokens}
use Rattle.engine_formats.proofs.sarif.write_result.Goals as goal

pub returns-clause-tokens : goal.returns-clause-tokens
unfolding result_tokens
returns-clause-tokens c =
    rw (
      c.in_ok-end_object.ensures.ok,
      c.in_ok-write_fingerprint.ensures.tokens,
      c.in_ok-end_array.ensures.ok,
      c.in_ok-write_place.ensures.tokens,
      c.in_ok-begin_array.ensures.ok,
      c.in_ok-key.ensures.ok,
      c.in_ok-write_message.ensures.tokens,
      c.in_ok-write_word.ensures.tokens,
      c.in_ok-write_text.ensures.tokens,
      c.in_ok-begin_object.ensures.ok,
      c.deref-2.ensures,
      c.word.ensures,
      c.severity.ensures,
      c.code.ensures,
      c.deref.ensures.value,
      c.in_ok-said.ensures,
      c.as_slice.ensures,
    )
    (simp append_assoc)
