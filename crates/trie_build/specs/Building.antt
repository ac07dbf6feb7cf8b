-- Serves inner proofs only: the nodes of the trie of some patterns.
use Rattle.std.specs.Prelude.{ℕ, ◌≡◌, ◌+◌, ◌-◌, ◌<◌, ◌≤◌, List, [], length, slice_index_or}
use Rattle.text_core.specs.declared.item.Item.{Item}
use Rattle.text_core.specs.declared.item.Item.TheVariants.{One}
use Rattle.trie_nodes.specs.Tree.{Shape, node_at, path}
use Rattle.trie_nodes.specs.declared.node.Node.{Node}
use Rattle.trie_build.specs.Paths.{children_in, paths_among}
use Rattle.trie_build.specs.Rows.{pattern_at}

-- a node has as many children as its path has, the last label of its path, and as many values as there are patterns
-- equal to its path
pub record IsNodeAt (ps : List (List Item)) (q : List Item) (n : Node) : Type 0 where
  pub count : n.count ≡ length (children_in (paths_among ps) q)
  pub label : 0 < length q → n.label ≡ slice_index_or q (length q - 1) One
  pub within : n.first_value + n.values ≤ length ps
  pub own : (x : ℕ) → n.first_value ≤ x → x < n.first_value + n.values → pattern_at ps x ≡ q
  pub has : (x : ℕ) → x < length ps → pattern_at ps x ≡ q → (n.first_value ≤ x) × (x < n.first_value + n.values)

-- the nodes are those of the distinct prefixes of the patterns, in their order
pub record AreNodes (ps : List (List Item)) (nodes : List Node) : Type 0 where
  pub shape : Shape nodes
  pub count : length nodes ≡ length (paths_among ps)
  pub paths : (i : ℕ) → i < length nodes → path nodes i ≡ slice_index_or (paths_among ps) i []
  pub each : (i : ℕ) → i < length nodes → IsNodeAt ps (slice_index_or (paths_among ps) i []) (node_at nodes i)
