-- What the paths of a tree's nodes are, without saying how they are gathered.
use Rattle.std.specs.Prelude.{◌≡◌, ◌<◌, ℕ, List, ◌∷◌, [], ◌++◌, Contains}
use Rattle.text_core.specs.declared.item.Item.{Item}
use Rattle.trie_nodes.specs.declared.node.Node.{Node}
use Rattle.trie_nodes.specs.Tree.{children, node_at}

-- the root's path is empty, and that of a child is its parent's and after it the child's own label
pub record ArePaths (nodes : List Node) (path : ℕ → List Item) : Type 0 where
  pub root : path 0 ≡ []
  pub child : (parent i : ℕ) → Contains (children nodes parent) i → path i ≡ path parent ++ (node_at nodes i).label ∷ []

-- node i is the child of just one node, which comes before it
pub record HasOneParent (nodes : List Node) (i : ℕ) : Type 0 where
  pub parent : ℕ
  pub before : parent < i
  pub child : Contains (children nodes parent) i
  pub only : (other : ℕ) → Contains (children nodes other) i → other ≡ parent
