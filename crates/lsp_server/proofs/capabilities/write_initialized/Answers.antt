use Rattle.std.proofs.Common.{append_assoc}
use Rattle.lsp_server.specs.Capabilities.{initialized}
use Rattle.lsp_server.proofs.capabilities.write_initialized.Goals as goal

pub returns-clause-tokens : goal.returns-clause-tokens
unfolding initialized
returns-clause-tokens c =
    rw (
      c.in_ok-end_object.ensures.ok,
      c.in_ok-write_server_info.ensures.tokens,
      c.in_ok-key-2.ensures.ok,
      c.in_ok-write_capabilities.ensures.tokens,
      c.in_ok-key.ensures.ok,
      c.in_ok-begin_object.ensures.ok,
    )
    (simp append_assoc)
