use Rattle.std.proofs.Common.{◌≡◌, ◌++◌, drop, false, map}
use Rattle.lsp_words.specs.Marks.{marks_from}
use Rattle.lsp_words.proofs.marks.marks_of.Given as goal

abbrev pub invariant-loop-index : goal.invariant-loop-index
invariant-loop-index l =
    l.marks.items ++ marks_from l.index l.rule l.goes_on (map (λ r. r.now) (drop l.index l.rows)) ≡ marks_from 0 0 false (map (λ r. r.now) l.rows)
