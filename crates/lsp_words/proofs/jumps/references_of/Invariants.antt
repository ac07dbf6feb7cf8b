use Rattle.std.proofs.Common.{◌≡◌, ◌++◌, drop, filter, map}
use Rattle.lsp_words.specs.Jumps.{is_reference}
use Rattle.lsp_words.proofs.jumps.references_of.Given as goal

abbrev pub invariant-loop-other : goal.invariant-loop-other
invariant-loop-other l =
    map (λ m. m.now) l.found.items ++ filter (is_reference l.with_labels l.mark) (drop l.other-index l.marks)
    ≡ filter (is_reference l.with_labels l.mark) l.marks
