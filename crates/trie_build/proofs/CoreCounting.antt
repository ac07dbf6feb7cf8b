-- How many children the nodes of a trie have.
use Rattle.std.proofs.Common.{◌≡◌, ℕ, ◌+◌, ◌<◌, ◌≤◌, List, [], ◌∷◌, ◌++◌, length, take, drop, filter, get_or, refl, sym, ◌∙◌, ap, subst, arith, inl, inr, length-append}
use Rattle.std.proofs.lemmas.Bool.Decides.{leb_tells}
use Rattle.std.proofs.lemmas.List.{take_at}
use Rattle.std.proofs.lemmas.List.Sums.{length-filter}
use Rattle.std.specs.List.{count_by}
use Rattle.text_core.specs.declared.item.Item.{Item}
use Rattle.trie_build.specs.Content.{Content}
use Rattle.trie_build.specs.Held.{IsHeld}
use Rattle.trie_nodes.proofs.Shaped.{IsChild, found, path_on, up_is}
use Rattle.trie_nodes.specs.Tree.{node_at, path}
use Rattle.trie_nodes.specs.declared.node.Node.{Node}
use Rattle.trie_build.specs.Distinct.{IsIn, Rises}
use Rattle.trie_build.specs.Order.{path_cmp}
use Rattle.trie_build.specs.Paths.{is_child, paths_of, patterns_of}
use Rattle.trie_build.proofs.Children.{IsChildOf, child_of, of_child}
use Rattle.trie_build.proofs.Distinguishing.{filter_in, get_in, in_filter, in_get, one_list, rises_filter}
use Rattle.trie_build.proofs.Orders.{paths_order}
use Rattle.trie_build.proofs.Paths.{paths_tree}
use Rattle.trie_build.proofs.Spelling.{root_path}
use Rattle.trie_build.proofs.NodeLemmas.{children_within}
use Rattle.trie_build.proofs.Parts.{length_part, one_place, part_at, rises_part}

module _ (t : Content) (is : IsHeld t) where
  abbrev all_paths : List (List Item)
  all_paths = paths_of t.entries

  abbrev path_at : ℕ → List Item
  path_at i = get_or all_paths i []

  rises : Rises path_cmp all_paths
  rises = (paths_tree (patterns_of t.entries)).rises

  -- a child's path is its parent's and one label more
  child_path : (c p j : ℕ) → c < length t.nodes → IsChild t.nodes c p j → path_at c ≡ path_at p ++ (node_at t.nodes c).label ∷ []
  child_path c p j h child =
      let following : 0 < c = omega (arith, child.place, is.shape.later p child.parent) in
      let parent = up_is t.nodes is.shape c p j child in
      sym (is.paths c h) ∙ path_on t.nodes is.shape c following h ∙ ap (λ i. path t.nodes i ++ (node_at t.nodes c).label ∷ []) parent
      ∙ ap (λ q. q ++ (node_at t.nodes c).label ∷ []) (is.paths p child.parent)

  module _ (i : ℕ) (inside : i < length t.nodes) where
    abbrev own : Node
    own = node_at t.nodes i

    abbrev part : List (List Item)
    part = take own.count (drop own.first all_paths)

    within : own.first + own.count ≤ length t.nodes
    within = children_within t.nodes i is.shape inside

    part_len : length part ≡ own.count
    part_len = length_part own.count own.first all_paths (omega (arith, within, is.count))

    to : (z : List Item) → IsIn z (filter (is_child (path_at i)) all_paths) → IsIn z part
    to z there =
        let w = in_filter (is_child (path_at i)) z all_paths there in
        let child : IsChildOf (path_at i) z = child_of (path_at i) z w.1 in
        let at = in_get [] z all_paths w.0 in
        let c : ℕ = at.0 in
        let here : c < length t.nodes = omega (arith, at.1, is.count) in
        let following : 0 < c = elim (leb_tells c 0) [
          | inl none ↦ absurd (
              let first : c ≡ 0 = omega (arith, none.1) in
              let empty : length z ≡ 0 = ap length (at.2 ∙ ap path_at first ∙ root_path t.entries) in
              omega (arith, empty, child.longer))
          | inr some ↦ some.1
        ] in
        let parent = found t.nodes is.shape c following here in
        let p : ℕ = parent.0 in
        let j : ℕ = parent.1.0 in
        let attached : IsChild t.nodes c p j = parent.1.1 in
        let grown : z ≡ path_at p ++ (node_at t.nodes c).label ∷ [] = at.2 ∙ child_path c p j here attached in
        let len : length z ≡ length (path_at p) + 1 = ap length grown ∙ length-append (path_at p) ((node_at t.nodes c).label ∷ []) in
        let long : length (path_at i) ≡ length (path_at p) = omega (arith, len, child.longer) in
        let same : path_at i ≡ path_at p =
        sym child.begins ∙ ap (take (length (path_at i))) grown ∙ take_at (path_at p) ((node_at t.nodes c).label ∷ []) (length (path_at i)) (sym long) in
        let one : i ≡ p = one_place path_cmp paths_order all_paths rises i p [] (omega (arith, inside, is.count)) (omega (arith, attached.parent, is.count)) same in
        let few : j < own.count = subst (λ q. j < (node_at t.nodes q).count) (sym one) attached.inside in
        let place : c ≡ own.first + j = attached.place ∙ ap (λ q. (node_at t.nodes q).first + j) (sym one) in
        let is_present : get_or part j [] ≡ z = part_at own.count own.first j all_paths [] few ∙ ap path_at (sym place) ∙ sym at.2 in
        subst (λ y. IsIn y part) is_present (get_in [] part j (omega (arith, part_len, few)))

    fro : (z : List Item) → IsIn z part → IsIn z (filter (is_child (path_at i)) all_paths)
    fro z there =
        let at = in_get [] z part there in
        let k : ℕ = at.0 in
        let few : k < own.count = omega (arith, at.1, part_len) in
        let c : ℕ = own.first + k in
        let here : c < length t.nodes = omega (arith, few, within) in
        let attached : IsChild t.nodes c i k = record { parent = inside; inside = few; place = refl } in
        let is_present : z ≡ path_at c = at.2 ∙ part_at own.count own.first k all_paths [] few in
        let grown : z ≡ path_at i ++ (node_at t.nodes c).label ∷ [] = is_present ∙ child_path c i k here attached in
        let len : length z ≡ length (path_at i) + 1 = ap length grown ∙ length-append (path_at i) ((node_at t.nodes c).label ∷ []) in
        let prefix : take (length (path_at i)) z ≡ path_at i = ap (take (length (path_at i))) grown ∙ take_at (path_at i) ((node_at t.nodes c).label ∷ []) (length (path_at i)) refl in
        filter_in (is_child (path_at i)) z all_paths (subst (λ y. IsIn y all_paths) (sym is_present) (get_in [] all_paths c (omega (arith, here, is.count)))) (of_child (path_at i) z len prefix)

    pub child_count_is : own.count ≡ count_by (is_child (path_at i)) all_paths
    child_count_is =
        let same : filter (is_child (path_at i)) all_paths ≡ part =
        one_list path_cmp paths_order (filter (is_child (path_at i)) all_paths) part (rises_filter path_cmp (is_child (path_at i)) all_paths rises) (rises_part path_cmp own.count own.first all_paths rises) to fro in
        sym part_len ∙ sym (ap length same) ∙ length-filter (is_child (path_at i)) all_paths
