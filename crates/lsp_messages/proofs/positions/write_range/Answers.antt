use Rattle.std.proofs.Common.{append_assoc}
use Rattle.lsp_messages.specs.Positions.{range_value}
use Rattle.lsp_messages.proofs.positions.write_range.Goals as goal

pub returns-clause-tokens : goal.returns-clause-tokens
unfolding range_value
returns-clause-tokens c =
    rw (
      c.in_ok-end_object.ensures.ok,
      c.in_ok-write_position-2.ensures.tokens,
      c.in_ok-key-2.ensures.ok,
      c.in_ok-write_position.ensures.tokens,
      c.in_ok-key.ensures.ok,
      c.in_ok-begin_object.ensures.ok,
    )
    (simp append_assoc)
