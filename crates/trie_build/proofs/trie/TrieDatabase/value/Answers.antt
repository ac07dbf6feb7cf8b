use Rattle.std.proofs.Common.{◌≡◌, ◌∙◌, ◌<◌, sym, length, arith, rules, vec_len}
use Rattle.trie_build.specs.Content.{Content}
use Rattle.trie_build.proofs.Holding.{entry_inside, value_is}
use Rattle.trie_build.proofs.trie.TrieDatabase.value.Goals as goal

pub index-entry-requires : goal.index-entry-requires
index-entry-requires c =
    let held : Content = record { entries = c.self.inside.entries.items; numbers = c.self.inside.numbers.items; nodes = c.self.inside.nodes.items } in
    let few : c.index.result.now < length c.self.inside.entries.items = entry_inside c.args.self.now held (sym c.self.view_is) c.self.invariant.0 c.args.j c.index.result.now c.requires c.index.ensures in
    let len : vec_len c.self.inside.entries ≡ length c.self.inside.entries.items = search rules in
    omega (arith, few, len)

pub returns : goal.returns
returns c =
    let held : Content = record { entries = c.self.inside.entries.items; numbers = c.self.inside.numbers.items; nodes = c.self.inside.nodes.items } in
    c.of.ensures ∙ value_is c.args.self.now held (sym c.self.view_is) c.self.invariant.0 c.args.j c.index.result.now c.index-entry.result.now c.requires c.index.ensures c.index-entry.ensures
