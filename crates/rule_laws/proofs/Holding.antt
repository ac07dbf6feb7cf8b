-- What the nodes of a trie hold.
use Rattle.std.proofs.Common.{◌≡◌, [], length, map, sym}
use Rattle.std.proofs.lemmas.List.FromFn.{fill_by_all}
use Rattle.trie_nodes.specs.Tree.{numbers, path}
use Rattle.trie_build.specs.Content.{Content, IsTrie}
use Rattle.trie_build.specs.Paths.{paths_of}

module _ (t : Content) (is : IsTrie t) where
  pub paths_in_place : map (path t.nodes) (numbers t.nodes) ≡ paths_of t.entries
  paths_in_place = sym (fill_by_all (path t.nodes) (paths_of t.entries) (length t.nodes) [] (sym is.count) (λ i h. sym (is.paths i h)))
