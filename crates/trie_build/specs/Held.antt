-- Serves inner proofs only: what a trie holds, by the numbers of its nodes and values.
use Rattle.std.specs.Prelude.{ℕ, ◌≡◌, ◌↔◌, ◌+◌, ◌<◌, ◌≤◌, List, [], length, take, drop, slice_index_or}
use Rattle.std.specs.List.{range_with_len}
use Rattle.std.specs.List.Sorted.{IsPermutation}
use Rattle.text_core.specs.declared.item.Item.{Item}
use Rattle.trie_nodes.specs.Orders.{Rising}
use Rattle.trie_nodes.specs.Tree.{Shape, node_at, path}
use Rattle.trie_nodes.specs.declared.node.Node.{Node}
use Rattle.trie_build.specs.Content.{Content, entry_at}
use Rattle.trie_build.specs.Paths.{paths_of}

-- the pattern of the entry that a value is
abbrev pub pattern_of : Content → ℕ → List Item
pattern_of t j = (entry_at t.entries (slice_index_or t.numbers j 0)).pattern

-- the order of the entry that a value is
abbrev pub order_of : Content → ℕ → ℕ
order_of t j = (entry_at t.entries (slice_index_or t.numbers j 0)).order

-- a value is one of a node's
abbrev pub IsValueOf : Node → ℕ → Type 0
IsValueOf n j = (n.first_value ≤ j) × (j < n.first_value + n.values)

-- the numbers of a node's values
abbrev pub own_numbers : List ℕ → Node → List ℕ
own_numbers numbers n = take n.values (drop n.first_value numbers)

-- The nodes are those of the distinct prefixes, in their order. The values are the entries, each once,
-- and those of a node are the entries whose pattern is its path, by order.
pub record IsHeld (t : Content) : Type 0 where
  pub rising : Rising t.entries
  pub shape : Shape t.nodes
  pub count : length t.nodes ≡ length (paths_of t.entries)
  pub paths : (i : ℕ) → i < length t.nodes → path t.nodes i ≡ slice_index_or (paths_of t.entries) i []
  pub values : IsPermutation (range_with_len 0 (length t.entries)) t.numbers
  pub within : (i : ℕ) → i < length t.nodes → (node_at t.nodes i).first_value + (node_at t.nodes i).values ≤ length t.numbers
  pub own : (i j : ℕ) → i < length t.nodes → j < length t.numbers → IsValueOf (node_at t.nodes i) j ↔ (pattern_of t j ≡ path t.nodes i)
  pub by_order : (i j k : ℕ) → i < length t.nodes → IsValueOf (node_at t.nodes i) j → IsValueOf (node_at t.nodes i) k → j < k → order_of t j < order_of t k
