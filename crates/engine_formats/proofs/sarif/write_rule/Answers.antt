use Rattle.std.proofs.Common.{append_assoc}
use Rattle.engine_formats.specs.Tokens.{rule_tokens}
use Rattle.engine_formats.proofs.sarif.write_rule.Goals as goal

pub returns-clause-tokens : goal.returns-clause-tokens
unfolding rule_tokens
returns-clause-tokens c =
    rw (
      c.in_ok-end_object-2.ensures.ok,
      c.in_ok-end_object.ensures.ok,
      c.in_ok-write_word.ensures.tokens,
      c.in_ok-begin_object-2.ensures.ok,
      c.in_ok-key.ensures.ok,
      c.in_ok-write_message-3.ensures.tokens,
      c.in_ok-write_message-2.ensures.tokens,
      c.in_ok-write_message.ensures.tokens,
      c.in_ok-write_text.ensures.tokens,
      c.in_ok-begin_object.ensures.ok,
      c.word.ensures,
      c.severity.ensures,
      c.advice-2.ensures,
      c.advice.ensures,
      c.text.ensures,
      c.code.ensures,
    )
    (simp append_assoc)
