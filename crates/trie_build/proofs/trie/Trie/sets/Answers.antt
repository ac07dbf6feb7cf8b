use Rattle.std.proofs.Common.{◌∙◌, ap}
use Rattle.trie_build.specs.Content.{Content}
use Rattle.trie_build.specs.Shown.{node_sets}
use Rattle.trie_build.proofs.Sizing.{sets_are}
use Rattle.trie_build.specs.Sizes.{sets_of}
use Rattle.trie_build.proofs.trie.Trie.sets.Goals as goal

pub returns : goal.returns
returns c =
    let held : Content = record { entries = c.self.inside.entries.items; numbers = c.self.inside.numbers.items; nodes = c.self.inside.nodes.items } in
    c.in_ok-sets.ensures ∙ ap node_sets c.deref.ensures.value ∙ sets_are held c.self.invariant.0 ∙ ap (λ (t : Content). sets_of t.entries) c.self.view_is
