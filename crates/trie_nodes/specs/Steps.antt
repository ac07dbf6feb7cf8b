-- Serves inner proofs only: which nodes are active after one byte more.
use Rattle.std.specs.Prelude.{ℕ, Bool, ◌||◌, ◌&&◌, List, filter}
use Rattle.text_core.specs.declared.item.Item.{Item}
use Rattle.text_core.specs.declared.item.Item.TheVariants.{Many}
use Rattle.text_core.specs.Items.{takes}
use Rattle.trie_nodes.specs.declared.node.Node.{Node}
use Rattle.trie_nodes.specs.Tree.{is_star, node_at}

-- whether a node is active after a byte, by its parent before it and after it, and by itself before it
abbrev pub proceeds : Item → Bool → Bool → Bool → ℕ → Bool
proceeds Many parent parent_next own b = parent_next || own
proceeds x parent parent_next own b = parent && takes x b

-- the stars among some nodes
abbrev pub stars : List Node → List ℕ → List ℕ
stars nodes is = filter (λ i. is_star (node_at nodes i).label) is

-- the nodes among some that take a byte
abbrev pub takers : List Node → ℕ → List ℕ → List ℕ
takers nodes b is = filter (λ i. takes (node_at nodes i).label b) is
