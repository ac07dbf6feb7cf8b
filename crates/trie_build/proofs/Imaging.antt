-- The nodes of the image are in their places.
use Rattle.std.proofs.Common.{◌≡◌, ℕ, zero, suc, ◌+◌, ◌<◌, List, [], ◌∷◌, length, take, map, get_or, refl, sym, ◌∙◌, ap, arith, zero-add}
use Rattle.std.specs.List.{sum_by, enumerate_from}
use Rattle.std.proofs.Math.Seq.{take-length}
use Rattle.std.proofs.lemmas.List.{length-map, get_or-map}
use Rattle.std.proofs.lemmas.List.Concat.{length-flat_map}
use Rattle.std.proofs.lemmas.List.FromFn.{length-enumerate_from, get_or-enumerate_from}
use Rattle.std.proofs.lemmas.List.Sums.{sum_by-cons}
use Rattle.text_core.specs.declared.item.Item.{Item}
use Rattle.trie_nodes.specs.declared.entry.Entry.{Entry}
use Rattle.trie_build.specs.Accepted.{IsInPlace}
use Rattle.trie_build.specs.Paths.{ending_at, paths_of, patterns_of}
use Rattle.trie_build.proofs.Later.{later}
use Rattle.trie_build.proofs.Paths.{count_children, paths_tree}
use Rattle.trie_build.specs.Image.{by_nodes, child_count, draft_of, image_node, image_value, value_count}
use Rattle.trie_build.specs.Sound.{first_children, first_values}
use Rattle.trie_build.specs.declared.records.NodeRecord.{NodeRecord}
use Rattle.trie_build.specs.declared.records.ValueRecord.{ValueRecord}

-- an entry, for numbers that none has
abbrev pub no_entry : Entry
no_entry = record { pattern = []; key = []; value = []; order = 0; file = []; line = 0 }

-- a sum over numbered paths
numbered : (f : ℕ → List Item → NodeRecord) (g : NodeRecord → ℕ) (h : List Item → ℕ) → ((k : ℕ) (p : List Item) → g (f k p) ≡ h p)
    → (ps : List (List Item)) (i k : ℕ) → sum_by g (take i (map (λ n. f n.0 n.1) (enumerate_from k ps))) ≡ sum_by h (take i ps)
numbered f g h same ps zero k = refl
numbered f g h same [] (suc i) k = refl
numbered f g h same (p ∷ ps) (suc i) k =
    let on : sum_by g (take i (map (λ n. f n.0 n.1) (enumerate_from (k + 1) ps))) ≡ sum_by h (take i ps) = numbered f g h same ps i (k + 1) in
    sum_by-cons g (f k p) (take i (map (λ n. f n.0 n.1) (enumerate_from (k + 1) ps)))
    ∙ ap (λ n. n + sum_by g (take i (map (λ n. f n.0 n.1) (enumerate_from (k + 1) ps)))) (same k p) ∙ ap (λ n. h p + n) on
    ∙ sym (sum_by-cons h p (take i ps))

module _ (es : List Entry) where
  pub nodes_len : length (draft_of es).nodes ≡ length (paths_of es)
  nodes_len = simp (length-map, length-enumerate_from)

  pub values_len : length (draft_of es).values ≡ length (by_nodes es)
  values_len = simp (length-map, length-enumerate_from)

  children_sum : (i : ℕ) → first_children (draft_of es) i ≡ sum_by (child_count es) (take i (paths_of es))
  children_sum i = numbered (image_node es) (λ n. n.count) (child_count es) (λ k p. refl) (paths_of es) i 0

  values_sum : (i : ℕ) → first_values (draft_of es) i ≡ sum_by (value_count es) (take i (paths_of es))
  values_sum i = numbered (image_node es) (λ n. n.values) (value_count es) (λ k p. refl) (paths_of es) i 0

  pub node_is : (i : ℕ) (n : NodeRecord) → i < length (draft_of es).nodes → get_or (draft_of es).nodes i n ≡ image_node es i (get_or (paths_of es) i [])
  node_is i n h =
      let inside : i < length (paths_of es) = omega (arith, nodes_len) in
      let among : i < length (enumerate_from 0 (paths_of es)) = rw (length-enumerate_from 0 (paths_of es)) inside in
      get_or-map (λ m. image_node es m.0 m.1) (enumerate_from 0 (paths_of es)) i (0, []) n among
      ∙ ap (λ m. image_node es m.0 m.1) (get_or-enumerate_from 0 (paths_of es) i (0, []) inside)
      ∙ ap (λ k. image_node es k (get_or (paths_of es) i [])) (zero-add i)

  pub value_is : (j : ℕ) (v : ValueRecord) → j < length (draft_of es).values → get_or (draft_of es).values j v ≡ image_value es j (get_or (by_nodes es) j no_entry)
  value_is j v h =
      let inside : j < length (by_nodes es) = omega (arith, values_len) in
      let among : j < length (enumerate_from 0 (by_nodes es)) = rw (length-enumerate_from 0 (by_nodes es)) inside in
      get_or-map (λ m. image_value es m.0 m.1) (enumerate_from 0 (by_nodes es)) j (0, no_entry) v among
      ∙ ap (λ m. image_value es m.0 m.1) (get_or-enumerate_from 0 (by_nodes es) j (0, no_entry) inside)
      ∙ ap (λ k. image_value es k (get_or (by_nodes es) j no_entry)) (zero-add j)

  pub in_place : (i : ℕ) (n : NodeRecord) → i < length (draft_of es).nodes → IsInPlace i (first_children (draft_of es) i) (first_values (draft_of es) i) (get_or (draft_of es).nodes i n)
  in_place i n h =
      let inside : i < length (paths_of es) = omega (arith, nodes_len) in
      let own : IsInPlace i (sum_by (child_count es) (take i (paths_of es))) (sum_by (value_count es) (take i (paths_of es))) (image_node es i (get_or (paths_of es) i [])) =
      record { first = refl; later = later (paths_of es) (paths_tree (patterns_of es)) i inside; first_value = refl } in
      rw (children_sum i, values_sum i, node_is i n h) own

  pub all_children : 1 + first_children (draft_of es) (length (draft_of es).nodes) ≡ length (draft_of es).nodes
  all_children =
      let whole : sum_by (child_count es) (take (length (draft_of es).nodes) (paths_of es)) ≡ sum_by (child_count es) (paths_of es) =
      ap (λ n. sum_by (child_count es) (take n (paths_of es))) nodes_len ∙ ap (sum_by (child_count es)) (take-length (paths_of es)) in
      omega (arith, children_sum (length (draft_of es).nodes), whole, count_children (patterns_of es), nodes_len)

  pub all_values : first_values (draft_of es) (length (draft_of es).nodes) ≡ length (draft_of es).values
  all_values =
      values_sum (length (draft_of es).nodes)
      ∙ ap (λ n. sum_by (value_count es) (take n (paths_of es))) nodes_len ∙ ap (sum_by (value_count es)) (take-length (paths_of es))
      ∙ sym (length-flat_map (ending_at es) (paths_of es)) ∙ sym values_len
