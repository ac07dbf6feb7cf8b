use Rattle.std.proofs.Common.{append_assoc}
use Rattle.engine_formats.specs.Tokens.{issue_tokens}
use Rattle.engine_formats.proofs.gitlab.write_issue.Goals as goal

pub returns-clause-tokens : goal.returns-clause-tokens
unfolding issue_tokens
returns-clause-tokens c =
    rw (
      c.in_ok-end_object.ensures.ok,
      c.in_ok-write_location.ensures.tokens,
      c.in_ok-key.ensures.ok,
      c.in_ok-write_word-2.ensures.tokens,
      c.in_ok-write_word.ensures.tokens,
      c.in_ok-write_text-2.ensures.tokens,
      c.in_ok-write_text.ensures.tokens,
      c.in_ok-begin_object.ensures.ok,
      c.gitlab_severity.ensures,
      c.severity.ensures,
      c.code.ensures,
      c.deref-2.ensures,
      c.deref.ensures.value,
      c.in_ok-said.ensures,
      c.as_slice.ensures,
    )
    (simp append_assoc)
