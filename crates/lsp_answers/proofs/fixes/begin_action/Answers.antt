use Rattle.std.proofs.Common.{append_assoc}
use Rattle.lsp_answers.specs.Begun.{action_begins}
use Rattle.lsp_answers.proofs.fixes.begin_action.Goals as goal

pub returns-clause-tokens : goal.returns-clause-tokens
unfolding action_begins
returns-clause-tokens c =
    rw (
      c.in_ok-begin_array.ensures.ok,
      c.in_ok-key-3.ensures.ok,
      c.in_ok-begin_object-3.ensures.ok,
      c.in_ok-key-2.ensures.ok,
      c.in_ok-begin_object-2.ensures.ok,
      c.in_ok-key.ensures.ok,
      c.in_ok-write_word.ensures.tokens,
      c.in_ok-write_told.ensures.tokens,
      c.in_ok-begin_object.ensures.ok,
    )
    (simp append_assoc)
