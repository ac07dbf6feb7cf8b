use Rattle.std.proofs.Common.{◌≡◌, [], fold}
use Rattle.lsp_words.specs.Rows.{items_in}
use Rattle.lsp_words.specs.Symbols.{with_item}
use Rattle.lsp_words.proofs.symbols.matched.Given as goal

abbrev pub invariant-loop-item : goal.invariant-loop-item
invariant-loop-item l = fold (with_item l.row) l.name.items l.item-iterator ≡ fold (with_item l.row) [] (items_in l.row)
