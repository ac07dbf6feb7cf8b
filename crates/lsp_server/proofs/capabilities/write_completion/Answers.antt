use Rattle.std.proofs.Common.{append_assoc}
use Rattle.lsp_server.specs.Capabilities.{completion}
use Rattle.lsp_server.proofs.capabilities.write_completion.Goals as goal

pub returns-clause-tokens : goal.returns-clause-tokens
unfolding completion
returns-clause-tokens c =
    rw (
      c.in_ok-end_object.ensures.ok,
      c.in_ok-end_array.ensures.ok,
      c.in_ok-string-4.ensures.ok,
      c.in_ok-string-3.ensures.ok,
      c.in_ok-string-2.ensures.ok,
      c.in_ok-string.ensures.ok,
      c.in_ok-begin_array.ensures.ok,
      c.in_ok-key.ensures.ok,
      c.in_ok-begin_object.ensures.ok,
    )
    (simp append_assoc)
