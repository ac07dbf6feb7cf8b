use Rattle.std.proofs.Common.{sym, arith}
use Rattle.trie_build.specs.Content.{Content}
use Rattle.trie_build.proofs.Holding.{span_small}
use Rattle.trie_build.proofs.trie.TrieDatabase.values_of.Goals as goal

pub overflow_add-result : goal.overflow_add-result
overflow_add-result c =
    let held : Content = record { entries = c.self.inside.entries.items; numbers = c.self.inside.numbers.items; nodes = c.self.inside.nodes.items } in
    let small = span_small c.args.self.now held (sym c.self.view_is) c.self.invariant.0 c.args.i c.index-node.result.now c.requires c.index-node.ensures c.self.invariant.2 in
    omega (arith, small)
