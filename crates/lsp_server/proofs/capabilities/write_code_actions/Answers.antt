use Rattle.std.proofs.Common.{append_assoc}
use Rattle.lsp_server.specs.Capabilities.{code_actions}
use Rattle.lsp_server.proofs.capabilities.write_code_actions.Goals as goal

pub returns-clause-tokens : goal.returns-clause-tokens
unfolding code_actions
returns-clause-tokens c =
    rw (
      c.in_ok-end_object.ensures.ok,
      c.in_ok-end_array.ensures.ok,
      c.in_ok-string.ensures.ok,
      c.in_ok-begin_array.ensures.ok,
      c.in_ok-key.ensures.ok,
      c.in_ok-begin_object.ensures.ok,
    )
    (simp append_assoc)
