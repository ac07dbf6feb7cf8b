use Rattle.std.proofs.Common.{append_assoc}
use Rattle.lsp_answers.specs.Documents.{about_whole}
use Rattle.lsp_answers.proofs.documents.write_about_whole.Goals as goal

pub returns-clause-tokens : goal.returns-clause-tokens
unfolding about_whole
returns-clause-tokens c =
    rw (
      c.in_ok-end_array.ensures.ok,
      c.in_ok-end_object.ensures.ok,
      c.in_ok-write_word-2.ensures.tokens,
      c.in_ok-write_word.ensures.tokens,
      c.in_ok-write_number.ensures.tokens,
      c.in_ok-write_range.ensures.tokens,
      c.in_ok-key.ensures.ok,
      c.in_ok-begin_object.ensures.ok,
      c.in_ok-begin_array.ensures.ok,
    )
    (simp append_assoc)
