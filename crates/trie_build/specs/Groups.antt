-- Serves inner proofs only: a node as the range of the sorted patterns that begin with its path.
use Rattle.std.specs.Prelude.{ℕ, ◌≡◌, ◌<◌, ◌≤◌, List, length, map, take, drop, slice_index_or}
use Rattle.std.specs.declared.cmp.Ordering.TheVariants.{Equal}
use Rattle.text_core.specs.declared.item.Item.{Item}
use Rattle.text_core.specs.declared.item.Item.TheVariants.{One}
use Rattle.trie_build.specs.Distinct.{IsIn}
use Rattle.trie_build.specs.Order.{label_cmp}
use Rattle.trie_build.specs.Paths.{children_in, paths_among}
use Rattle.trie_build.specs.Rows.{pattern_at}
use Rattle.trie_build.specs.declared.groups.Group.{Group}

-- the label of a pattern after its first labels
abbrev pub label_at : List (List Item) → ℕ → ℕ → Item
label_at ps depth x = slice_index_or (pattern_at ps x) depth One

-- the path of a group
abbrev pub path_of : List (List Item) → Group → List Item
path_of ps g = take g.depth (pattern_at ps g.start)

-- the patterns of a group are all that begin with its path
pub record IsGroup (ps : List (List Item)) (g : Group) : Type 0 where
  pub ordered : g.start ≤ g.end
  pub within : g.end ≤ length ps
  pub depth : length (path_of ps g) ≡ g.depth
  pub inside : (x : ℕ) → g.start ≤ x → x < g.end → take g.depth (pattern_at ps x) ≡ path_of ps g
  pub outside : (x : ℕ) → x < length ps → take g.depth (pattern_at ps x) ≡ path_of ps g → (g.start ≤ x) × (x < g.end)

-- a place in a group before which the patterns are its path, and from which on they are longer
pub record IsSplit (ps : List (List Item)) (g : Group) (from : ℕ) : Type 0 where
  pub start : g.start ≤ from
  pub end : from ≤ g.end
  pub own : (x : ℕ) → g.start ≤ x → x < from → length (pattern_at ps x) ≡ g.depth
  pub longer : (x : ℕ) → from ≤ x → x < g.end → g.depth < length (pattern_at ps x)

-- the patterns up to a place have one label, and the next another
pub record IsRun (ps : List (List Item)) (start end depth stop : ℕ) : Type 0 where
  pub more : start < stop
  pub within : stop ≤ end
  pub same : (x : ℕ) → start ≤ x → x < stop → label_cmp (label_at ps depth start) (label_at ps depth x) ≡ Equal
  pub next : stop < end → label_cmp (label_at ps depth start) (label_at ps depth stop) ≡ Equal → ⊥

-- the groups that were added are the children of a group, in order
pub record AreChildren (ps : List (List Item)) (g : Group) (old new : List Group) : Type 0 where
  pub kept : take (length old) new ≡ old
  pub longer : length old ≤ length new
  pub groups : (c : Group) → IsIn c (drop (length old) new) → IsGroup ps c
  pub paths : map (path_of ps) (drop (length old) new) ≡ children_in (paths_among ps) (path_of ps g)
