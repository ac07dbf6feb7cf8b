use Rattle.std.proofs.Common.{append_assoc}
use Rattle.lsp_messages.specs.Positions.{position_value}
use Rattle.lsp_messages.proofs.positions.write_position.Goals as goal

pub returns-clause-tokens : goal.returns-clause-tokens
unfolding position_value
returns-clause-tokens c =
    rw (
      c.in_ok-end_object.ensures.ok,
      c.in_ok-write_number-2.ensures.tokens,
      c.in_ok-write_number.ensures.tokens,
      c.in_ok-begin_object.ensures.ok,
    )
    (simp append_assoc)
