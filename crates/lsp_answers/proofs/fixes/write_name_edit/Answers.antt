use Rattle.std.proofs.Common.{append_assoc}
use Rattle.lsp_answers.specs.Fixes.{name_edit}
use Rattle.lsp_answers.proofs.fixes.write_name_edit.Goals as goal

pub returns-clause-tokens : goal.returns-clause-tokens
unfolding name_edit
returns-clause-tokens c =
    rw (
      c.in_ok-end_object.ensures.ok,
      c.in_ok-write_told.ensures.tokens,
      c.in_ok-write_diagnostic_range.ensures.tokens,
      c.in_ok-key.ensures.ok,
      c.in_ok-begin_object.ensures.ok,
    )
    (simp append_assoc)
