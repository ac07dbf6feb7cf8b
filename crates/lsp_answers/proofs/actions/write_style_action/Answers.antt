use Rattle.std.proofs.Common.{append_assoc}
use Rattle.lsp_answers.specs.Begun.{action_begins}
use Rattle.lsp_answers.specs.Fixes.{action}
use Rattle.lsp_answers.proofs.actions.write_style_action.Goals as goal

pub returns-in_ok-end_action-in-Some-clause-tokens : goal.returns-in_ok-end_action-in-Some-clause-tokens
unfolding action action_begins
returns-in_ok-end_action-in-Some-clause-tokens c =
    rw (
      c.in_ok-end_action-in-Some.ensures.tokens,
      c.in_ok-write_whole_edit-in-Some.ensures.tokens,
      c.in_ok-begin_action-in-Some.ensures.tokens,
      c.deref.ensures,
      ← c.in_ok-mended_text.ensures,
      c.in-Some.is,
    )
    (simp append_assoc)
