-- A tree as a list of nodes: the paths that lead to them, and which of them are active after a text.
use Rattle.std.specs.Prelude.{ℕ, ◌+◌, ◌<◌, ◌≡◌, Bool, true, false, List, [], length, map, filter, flat_map, sum_by, take, drop, zip, slice_index_or}
use Rattle.std.specs.List.{range_with_len}
use Rattle.text_core.specs.declared.item.Item.{Item}
use Rattle.text_core.specs.declared.item.Item.TheVariants.{Byte, One, Many}
use Rattle.text_core.specs.Fits.{fits}
use Rattle.trie_nodes.specs.declared.node.Node.{Node}
use Rattle.trie_nodes.specs.Paths.{Link, paths}

-- a node with no children, for numbers that no node has
abbrev pub nowhere : Node
nowhere = record { label = Byte 0; first = 0; count = 0; first_value = 0; values = 0 }

-- the node with a number
abbrev pub node_at : List Node → ℕ → Node
node_at nodes i = slice_index_or nodes i nowhere

-- the numbers of a node's children
abbrev pub children : List Node → ℕ → List ℕ
children nodes i = range_with_len (node_at nodes i).first (node_at nodes i).count

-- the numbers of the nodes
abbrev pub numbers : List Node → List ℕ
numbers nodes = range_with_len 0 (length nodes)

-- each node's number, as often as it has children: the parents of the nodes but the root, in order
abbrev pub parents : List Node → List ℕ
parents nodes = flat_map (λ i. map (λ _. i) (children nodes i)) (numbers nodes)

-- the link of a node to its parent, from the parent's number and the node
abbrev pub link : ℕ × Node → Link
link pair = record { parent = pair.0; label = pair.1.label }

-- the links of all nodes but the root to their parents
abbrev pub links : List Node → List Link
links nodes = map link (zip (parents nodes) (drop 1 nodes))

-- the labels from the root to a node
unfoldable pub path : List Node → ℕ → List Item
path nodes i = slice_index_or (paths (links nodes)) i []

-- whether a node is active after a text: its path, as a pattern, fits it
abbrev pub is_active : List Node → List ℕ → ℕ → Bool
is_active nodes t i = fits (path nodes i) t

-- the nodes that are active after a text, rising
abbrev pub active_after : List Node → List ℕ → List ℕ
active_after nodes t = filter (is_active nodes t) (numbers nodes)

-- how many nodes are active after each length of a text from 0 up to n, summed
abbrev pub count_within : List Node → List ℕ → ℕ → ℕ
count_within nodes m n = sum_by length (map (λ j. active_after nodes (take j m)) (range_with_len 0 (n + 1)))

-- how many nodes are active after each length of a text, summed
abbrev pub count : List Node → List ℕ → ℕ
count nodes m = count_within nodes m (length m)

-- the children of the nodes follow one another, each after its parent, and are all nodes but the root
pub record Shape (nodes : List Node) : Type 0 where
  pub first : (i : ℕ) → i < length nodes → (node_at nodes i).first ≡ 1 + sum_by (λ n. n.count) (take i nodes)
  pub later : (i : ℕ) → i < length nodes → i < (node_at nodes i).first
  pub all : 1 + sum_by (λ n. n.count) nodes ≡ length nodes
  pub root : (node_at nodes 0).label ≡ One

-- whether a label is `*`
abbrev pub is_star : Item → Bool
is_star Many = true
is_star x = false
