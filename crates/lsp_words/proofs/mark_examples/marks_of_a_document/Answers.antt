use Rattle.std.proofs.Common.{refl}
use Rattle.lsp_words.specs.Marks.{mark_kind, marks_in, marks_of}
use Rattle.lsp_words.specs.Rows.{items_in}
use Rattle.rule_tokens.specs.Grammar.{prefix_quote}
use Rattle.rule_tokens.specs.Lines.{items_after, items_within, items_left}
use Rattle.rule_tokens.specs.Reading.{key_at, closed_at, attribute_at, operator_at, head_at, quote_at, token_at, piece_at, pieces_of}
use Rattle.lsp_words.proofs.mark_examples.marks_of_a_document.Goals as goal

pub returns : goal.returns
unfolding items_in mark_kind marks_in marks_of items_after items_within items_left prefix_quote key_at closed_at attribute_at operator_at head_at
    quote_at token_at piece_at pieces_of
returns c = refl
