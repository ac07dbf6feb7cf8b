use Rattle.std.proofs.Common.{◌≡◌, map, take}
use Rattle.trie_build.proofs.rows.numbers_of.Given as goal

abbrev pub invariant-loop-row : goal.invariant-loop-row
invariant-loop-row l = l.numbers.items ≡ map (λ r. r.number) (take l.row-index l.rows)
