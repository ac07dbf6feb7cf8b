-- The paths of patterns are a tree.
use Rattle.std.proofs.Common.{◌≡◌, ℕ, ◌+◌, ◌-◌, ◌<◌, ◌≤◌, List, [], ◌∷◌, length, take, drop, flat_map, refl, sym, ◌∙◌, ap, subst, arith, inl, inr}
use Rattle.std.proofs.Math.Logic.{⊎_elim}
use Rattle.std.specs.List.{range_with_len, sum_by, count_by}
use Rattle.std.proofs.lemmas.List.{length-take, take-take}
use Rattle.std.proofs.lemmas.List.Concat.{length-flat_map}
use Rattle.std.proofs.lemmas.List.Sums.{length-filter}
use Rattle.text_core.specs.declared.item.Item.{Item}
use Rattle.trie_build.specs.Distinct.{IsDistinctOf, IsIn}
use Rattle.trie_build.specs.Paths.{children_in, is_child, paths_among, prefixes}
use Rattle.trie_build.specs.Order.{path_cmp}
use Rattle.trie_build.specs.Tree.{IsLevelByLevel, IsTree}
use Rattle.trie_build.proofs.Children.{level_by_level}
use Rattle.trie_build.proofs.Distinguishing.{distinct_is, flat_map_in, in_flat_map, in_map, in_range, map_in, range_in}
use Rattle.trie_build.proofs.Orders.{paths_order}

-- a prefix is a front of the pattern
in_prefixes : (q p : List Item) → IsIn q (prefixes p) → (n : ℕ) × (n ≤ length p) × (q ≡ take n p)
in_prefixes q p i =
    let w = in_map (λ n. take n p) q (range_with_len 0 (length p + 1)) i in
    let r = in_range w.0 0 (length p + 1) w.1 in
    (w.0, omega (arith, r.1), w.2)

prefix_in : (n : ℕ) (p : List Item) → n ≤ length p → IsIn (take n p) (prefixes p)
prefix_in n p h = map_in (λ k. take k p) n (range_with_len 0 (length p + 1)) (range_in n 0 (length p + 1) (omega arith) (omega arith))

-- all paths of a tree but the root's are children
count_of_tree : (ps : List (List Item)) → IsTree ps → 1 + sum_by (λ p. count_by (is_child p) ps) ps ≡ length ps
count_of_tree ps t =
    let levels : IsLevelByLevel ps = level_by_level ps t in
    let counts : length (flat_map (children_in ps) ps) ≡ sum_by (λ p. count_by (is_child p) ps) ps = length-flat_map (children_in ps) ps ∙ simp length-filter in
    let whole : length ps ≡ length ([] ∷ drop 1 ps) = ap length levels.first in
    let same : length (flat_map (children_in ps) ps) ≡ length (drop 1 ps) = ap length levels.children in
    omega (arith, counts, whole, same)

module _ (patterns : List (List Item)) where
  abbrev first_labels : List (List Item)
  first_labels = flat_map prefixes patterns

  pub all : IsDistinctOf path_cmp ([] ∷ first_labels) (paths_among patterns)
  all = distinct_is path_cmp paths_order ([] ∷ first_labels)

  -- each prefix of a pattern is a path
  pub prefix_is_path : (p : List Item) (n : ℕ) → IsIn p patterns → n ≤ length p → IsIn (take n p) (paths_among patterns)
  prefix_is_path p n i h = all.has (take n p) (inr (flat_map_in prefixes (take n p) p patterns i (prefix_in n p h)))

  -- a path is the root's or a prefix of a pattern
  pub path_is_prefix : (q : List Item) → IsIn q (paths_among patterns) → 0 < length q → (p : List Item) × IsIn p patterns × (length q ≤ length p) × (q ≡ take (length q) p)
  path_is_prefix q i some = ⊎_elim (λ e. absurd (let none : length q ≡ 0 = ap length e in omega (arith, none))) among (all.only q i) where
    among : IsIn q first_labels → (p : List Item) × IsIn p patterns × (length q ≤ length p) × (q ≡ take (length q) p)
    among j =
        let w = in_flat_map prefixes q patterns j in
        let prefix = in_prefixes q w.0 w.2 in
        let inside : prefix.0 ≤ length w.0 = prefix.1 in
        let len : length q ≡ prefix.0 = ap length prefix.2 ∙ simp length-take (omega arith) in
        (w.0, w.1, omega (arith, len), prefix.2 ∙ ap (λ n. take n w.0) (sym len))

  closed : (q : List Item) → IsIn q (paths_among patterns) → 0 < length q → IsIn (take (length q - 1) q) (paths_among patterns)
  closed q i some =
      let w = path_is_prefix q i some in
      let p : List Item = w.0 in
      let m : ℕ = length q - 1 in
      let inside : length q ≤ length p = w.2 in
      let same : take m q ≡ take m p = ap (take m) w.3 ∙ take-take m (length q) p (omega arith) in
      subst (λ l. IsIn l (paths_among patterns)) (sym same) (prefix_is_path p m w.1 (omega (arith, inside)))

  pub paths_tree : IsTree (paths_among patterns)
  paths_tree = record { rises = all.rises; root = all.has [] (inl refl); closed = closed }

  -- all nodes but the root are children
  pub count_children : 1 + sum_by (λ p. count_by (is_child p) (paths_among patterns)) (paths_among patterns) ≡ length (paths_among patterns)
  count_children = count_of_tree (paths_among patterns) paths_tree
