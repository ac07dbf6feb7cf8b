use Rattle.std.proofs.Common.{refl}
use Rattle.lsp_words.specs.Marks.{mark_kind, marks_in, marks_of}
use Rattle.lsp_words.specs.Rows.{items_in}
use Rattle.rule_tokens.specs.Grammar.{prefix_quote}
use Rattle.rule_tokens.specs.Lines.{items_after, items_within, items_left}
use Rattle.rule_tokens.specs.Reading.{key_at, closed_at, attribute_at, operator_at, head_at, quote_at, token_at, escape_first, piece_at, pieces_of}
use Rattle.rule_tokens.specs.Values.{letter_means}
use Rattle.lsp_words.proofs.mark_examples.marks_of_rows.Goals as goal

pub returns-clause-escaped : goal.returns-clause-escaped
unfolding items_in mark_kind marks_in marks_of items_after items_within items_left prefix_quote key_at closed_at attribute_at operator_at head_at
    quote_at token_at letter_means escape_first piece_at pieces_of
returns-clause-escaped c = refl

pub returns-clause-faulty : goal.returns-clause-faulty
unfolding items_in mark_kind marks_in marks_of items_after items_within items_left prefix_quote key_at closed_at attribute_at operator_at head_at
    quote_at token_at letter_means escape_first piece_at pieces_of
returns-clause-faulty c = refl

pub returns-clause-others : goal.returns-clause-others
unfolding items_in mark_kind marks_in marks_of items_after items_within items_left prefix_quote key_at closed_at attribute_at operator_at head_at
    quote_at token_at letter_means escape_first piece_at pieces_of
returns-clause-others c = refl

pub returns-clause-comment : goal.returns-clause-comment
unfolding items_in mark_kind marks_in marks_of items_after items_within items_left prefix_quote key_at closed_at attribute_at operator_at head_at
    quote_at token_at letter_means escape_first piece_at pieces_of
returns-clause-comment c = refl
