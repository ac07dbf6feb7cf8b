-- The paths of a tree's nodes.
use Rattle.std.specs.Prelude.{ℕ, List, ◌∷◌, [], ◌++◌, fold, slice_index_or}
use Rattle.text_core.specs.declared.item.Item.{Item}

-- the parent that a node has, and the label that leads from there to the node
pub record Link : Type 0 where
  pub parent : ℕ
  pub label : Item

-- a node's path is that of its parent and its own label
abbrev pub grow : List (List Item) → Link → List (List Item)
grow paths link = paths ++ (slice_index_or paths link.parent [] ++ link.label ∷ []) ∷ []

-- the paths of the root and of the nodes after these links
unfoldable pub paths : List Link → List (List Item)
paths links = fold grow ([] ∷ []) links
