use Rattle.std.proofs.Common.{◌≡◌, All, map}
use Rattle.std.specs.List.{range_with_len}
use Rattle.trie_build.specs.Rows.{Reports}
use Rattle.trie_build.proofs.rows.rows_in_order.Given as goal

abbrev pub invariant-loop-i : goal.invariant-loop-i
invariant-loop-i l = record {
  numbers : map (λ r. r.number) l.rows.items ≡ range_with_len 0 l.i;
  rows : All (Reports l.entries) l.rows.items;
}
