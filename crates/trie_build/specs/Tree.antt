-- When a list of paths is that of a tree, level by level.
use Rattle.std.specs.Prelude.{◌≡◌, ◌<◌, ◌-◌, List, [], ◌∷◌, flat_map, length, take, drop}
use Rattle.text_core.specs.declared.item.Item.{Item}
use Rattle.trie_build.specs.Distinct.{IsIn, Rises}
use Rattle.trie_build.specs.Order.{path_cmp}
use Rattle.trie_build.specs.Paths.{children_in}

-- paths that rise, the root's among them, and with each other path that of its parent
pub record IsTree (ps : List (List Item)) : Type 0 where
  pub rises : Rises path_cmp ps
  pub root : IsIn [] ps
  pub closed : (q : List Item) → IsIn q ps → 0 < length q → IsIn (take (length q - 1) q) ps

-- The children of the paths, path by path, are all paths but the root.
pub record IsLevelByLevel (ps : List (List Item)) : Type 0 where
  pub first : ps ≡ [] ∷ drop 1 ps
  pub children : flat_map (children_in ps) ps ≡ drop 1 ps
