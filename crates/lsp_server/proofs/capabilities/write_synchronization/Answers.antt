use Rattle.std.proofs.Common.{append_assoc}
use Rattle.lsp_server.specs.Capabilities.{synchronization}
use Rattle.lsp_server.proofs.capabilities.write_synchronization.Goals as goal

pub returns-clause-tokens : goal.returns-clause-tokens
unfolding synchronization
returns-clause-tokens c =
    rw (
      c.in_ok-end_object.ensures.ok,
      c.in_ok-write_number.ensures.tokens,
      c.in_ok-write_true.ensures.tokens,
      c.in_ok-begin_object.ensures.ok,
    )
    (simp append_assoc)
