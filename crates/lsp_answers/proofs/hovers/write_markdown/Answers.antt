use Rattle.std.proofs.Common.{append_assoc}
use Rattle.lsp_answers.specs.Hovers.{markdown}
use Rattle.lsp_answers.proofs.hovers.write_markdown.Goals as goal

pub returns-clause-tokens : goal.returns-clause-tokens
unfolding markdown
returns-clause-tokens c =
    rw (
      c.in_ok-end_object.ensures.ok,
      c.in_ok-write_word-2.ensures.tokens,
      c.in_ok-write_word.ensures.tokens,
      c.in_ok-begin_object.ensures.ok,
    )
    (simp append_assoc)
