use Rattle.std.proofs.Common.{◌≡◌, ◌++◌, drop, false, map}
use Rattle.lsp_words.specs.Symbols.{symbols_from}
use Rattle.lsp_words.proofs.symbols.symbols_of.Given as goal

abbrev pub invariant-loop-index : goal.invariant-loop-index
invariant-loop-index l =
    l.symbols.items ++ symbols_from l.kind l.index l.goes_on (map (λ r. r.now) (drop l.index l.rows)) ≡ symbols_from l.kind 0 false (map (λ r. r.now) l.rows)
