use Rattle.std.proofs.Common.{◌≡◌, ◌++◌}
use Rattle.std.specs.Prelude.{filter_map}
use Rattle.lsp_words.specs.Marks.{mark_of}
use Rattle.lsp_words.specs.Rows.{items_in}
use Rattle.lsp_words.proofs.marks.push_marks.Given as goal

abbrev pub invariant-loop-item : goal.invariant-loop-item
invariant-loop-item l =
    l.marks.items ++ filter_map (mark_of l.rule l.line) l.item-iterator ≡ l.fn.marks.items ++ filter_map (mark_of l.rule l.line) (items_in l.row)
