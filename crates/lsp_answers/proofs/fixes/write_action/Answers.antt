use Rattle.std.proofs.Common.{append_assoc}
use Rattle.lsp_answers.specs.Begun.{action_begins}
use Rattle.lsp_answers.specs.Fixes.{action}
use Rattle.lsp_answers.proofs.fixes.write_action.Goals as goal

pub returns-clause-tokens : goal.returns-clause-tokens
unfolding action action_begins
returns-clause-tokens c =
    rw (
      c.in_ok-end_action.ensures.tokens,
      c.in_ok-write_name_edit.ensures.tokens,
      c.in_ok-begin_action.ensures.tokens,
      c.deref.ensures.value,
      c.in_ok-title.ensures,
    )
    (simp append_assoc)
