use Rattle.std.proofs.Common.{append_assoc}
use Rattle.lsp_server.specs.Capabilities.{capabilities}
use Rattle.lsp_server.proofs.capabilities.write_capabilities.Goals as goal

pub returns-clause-tokens : goal.returns-clause-tokens
unfolding capabilities
returns-clause-tokens c =
    rw (
      c.in_ok-end_object.ensures.ok,
      c.in_ok-write_true-5.ensures.tokens,
      c.in_ok-write_code_actions.ensures.tokens,
      c.in_ok-key-3.ensures.ok,
      c.in_ok-write_true-4.ensures.tokens,
      c.in_ok-write_true-3.ensures.tokens,
      c.in_ok-write_true-2.ensures.tokens,
      c.in_ok-write_completion.ensures.tokens,
      c.in_ok-key-2.ensures.ok,
      c.in_ok-write_true.ensures.tokens,
      c.in_ok-write_synchronization.ensures.tokens,
      c.in_ok-key.ensures.ok,
      c.in_ok-write_word.ensures.tokens,
      c.in_ok-begin_object.ensures.ok,
      c.encoding_name.ensures,
    )
    (simp append_assoc)
