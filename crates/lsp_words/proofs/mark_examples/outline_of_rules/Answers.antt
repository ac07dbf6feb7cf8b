use Rattle.std.proofs.Common.{refl}
use Rattle.lsp_words.specs.Marks.{mark_kind}
use Rattle.lsp_words.specs.Rows.{items_in}
use Rattle.lsp_words.specs.Symbols.{begun_rule, label_of, matched, symbols_of}
use Rattle.rule_tokens.specs.Grammar.{prefix_quote}
use Rattle.rule_tokens.specs.Lines.{items_after, items_within, items_left}
use Rattle.rule_tokens.specs.Reading.{key_at, closed_at, attribute_at, operator_at, head_at, quote_at, token_at, piece_at, pieces_of}
use Rattle.lsp_words.proofs.mark_examples.outline_of_rules.Goals as goal

pub returns : goal.returns
unfolding items_in mark_kind begun_rule label_of matched symbols_of items_after items_within items_left prefix_quote key_at closed_at attribute_at
    operator_at head_at quote_at token_at piece_at pieces_of
returns c = refl
