use Rattle.std.proofs.Common.{append_assoc}
use Rattle.lsp_messages.specs.Responses.{error_value}
use Rattle.lsp_messages.proofs.errors.write_error.Goals as goal

pub returns-clause-tokens : goal.returns-clause-tokens
unfolding error_value
returns-clause-tokens c =
    rw (
      c.in_ok-end_object.ensures.ok,
      c.in_ok-write_word.ensures.tokens,
      c.in_ok-write_code.ensures.tokens,
      c.in_ok-begin_object.ensures.ok,
    )
    (simp append_assoc)
