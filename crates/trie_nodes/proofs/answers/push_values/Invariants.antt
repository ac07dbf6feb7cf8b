use Rattle.std.proofs.Common.{◌≡◌, ◌-◌, ◌++◌, map}
use Rattle.std.specs.List.{range_with_len}
use Rattle.trie_nodes.specs.Found.{found_entries}
use Rattle.trie_nodes.specs.Values.{bare, value_at, values_of}
use Rattle.trie_nodes.proofs.answers.push_values.Given as goal

abbrev pub invariant-loop-j : goal.invariant-loop-j
invariant-loop-j g l =
    found_entries l.found.items ++ map bare (map (value_at (g.D.Database.values l.database)) (range_with_len l.j (l.j-end - l.j)))
    ≡ found_entries l.fn.found.items ++ map bare (values_of (g.D.Nodes.nodes l.database) (g.D.Database.values l.database) l.i)
