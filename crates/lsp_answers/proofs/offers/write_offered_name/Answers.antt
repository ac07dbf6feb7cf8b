use Rattle.std.proofs.Common.{append_assoc}
use Rattle.lsp_answers.specs.Offers.{offered_name}
use Rattle.lsp_answers.proofs.offers.write_offered_name.Goals as goal

pub returns-clause-tokens : goal.returns-clause-tokens
unfolding offered_name
returns-clause-tokens c =
    rw (
      c.in_ok-end_object.ensures.ok,
      c.in_ok-write_name_edit.ensures.tokens,
      c.in_ok-key-2.ensures.ok,
      c.in_ok-write_markdown.ensures.tokens,
      c.in_ok-key.ensures.ok,
      c.in_ok-write_number.ensures.tokens,
      c.in_ok-write_word.ensures.tokens,
      c.in_ok-begin_object.ensures.ok,
      c.item_kind.ensures,
    )
    (simp append_assoc)
