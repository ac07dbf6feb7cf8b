use Rattle.std.proofs.Common.{subst}
use Rattle.trie_build.specs.Content.{Content, IsTrie}
use Rattle.trie_build.proofs.Gathering.{is_trie}
use Rattle.trie_build.proofs.trie.Trie.known.Goals as goal

pub returns-clause-trie : goal.returns-clause-trie
returns-clause-trie c =
    let held : Content = record { entries = c.self.inside.entries.items; numbers = c.self.inside.numbers.items; nodes = c.self.inside.nodes.items } in
    subst IsTrie c.self.view_is (is_trie held c.self.invariant.0)
