use Rattle.std.proofs.Common.{◌≡◌}
use Rattle.std.specs.Prelude.{filter_map}
use Rattle.text_bytes.specs.Texts.{first}
use Rattle.lsp_words.specs.Rows.{items_in}
use Rattle.lsp_words.specs.Symbols.{label_of}
use Rattle.lsp_words.proofs.symbols.label_in.Given as goal

abbrev pub invariant-loop-item : goal.invariant-loop-item
invariant-loop-item l = first (filter_map label_of l.item-iterator) ≡ first (filter_map label_of (items_in l.row))
