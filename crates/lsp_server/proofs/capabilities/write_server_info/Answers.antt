use Rattle.std.proofs.Common.{append_assoc}
use Rattle.lsp_server.specs.Capabilities.{server_info}
use Rattle.lsp_server.proofs.capabilities.write_server_info.Goals as goal

pub returns-clause-tokens : goal.returns-clause-tokens
unfolding server_info
returns-clause-tokens c =
    rw (
      c.in_ok-end_object.ensures.ok,
      c.in_ok-write_word-2.ensures.tokens,
      c.in_ok-write_word.ensures.tokens,
      c.in_ok-begin_object.ensures.ok,
    )
    (simp append_assoc)
