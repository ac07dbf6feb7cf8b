-- The paths of the trie of a list of entries.
use Rattle.std.specs.Prelude.{◌+◌, Bool, ◌&&◌, nat_eq, List, ◌∷◌, [], length, map, filter, flat_map, take}
use Rattle.std.specs.List.{range_with_len}
use Rattle.text_core.specs.declared.item.Item.{Item}
use Rattle.trie_nodes.specs.declared.entry.Entry.{Entry}
use Rattle.trie_build.specs.Distinct.{distinct}
use Rattle.std.specs.Ordering.{is_eq}
use Rattle.trie_build.specs.Order.{path_cmp}

-- a pattern's prefixes, the empty one and itself included
abbrev pub prefixes : List Item → List (List Item)
prefixes p = map (λ n. take n p) (range_with_len 0 (length p + 1))

-- the patterns of entries, in order
abbrev pub patterns_of : List Entry → List (List Item)
patterns_of es = map (λ e. e.pattern) es

-- the paths of the nodes: the distinct prefixes of all patterns, and that of the root
abbrev pub paths_among : List (List Item) → List (List Item)
paths_among patterns = distinct path_cmp ([] ∷ flat_map prefixes patterns)

-- the paths of the nodes of a list of entries
abbrev pub paths_of : List Entry → List (List Item)
paths_of es = paths_among (patterns_of es)

-- whether two paths are one
abbrev pub same_path : List Item → List Item → Bool
same_path p q = is_eq (path_cmp p q)

-- the entries whose pattern is a path, in their order
abbrev pub ending_at : List Entry → List Item → List Entry
ending_at es p = filter (λ e. same_path e.pattern p) es

-- whether a path is another with one label more
abbrev pub is_child : List Item → List Item → Bool
is_child p q = nat_eq (length q) (length p + 1) && same_path p (take (length p) q)

-- the children of a path among others
abbrev pub children_in : List (List Item) → List Item → List (List Item)
children_in ps p = filter (is_child p) ps
