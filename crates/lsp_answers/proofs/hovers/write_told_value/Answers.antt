use Rattle.std.proofs.Common.{append_assoc}
use Rattle.lsp_answers.specs.Hovers.{told_value}
use Rattle.lsp_answers.proofs.hovers.write_told_value.Goals as goal

pub returns-clause-tokens : goal.returns-clause-tokens
unfolding told_value
returns-clause-tokens c =
    rw (
      c.in_ok-end_object.ensures.ok,
      c.in_ok-write_row_range.ensures.tokens,
      c.in_ok-key-2.ensures.ok,
      c.in_ok-write_markdown.ensures.tokens,
      c.in_ok-key.ensures.ok,
      c.in_ok-begin_object.ensures.ok,
      ← c.spot.view_is,
    )
    (simp append_assoc)
