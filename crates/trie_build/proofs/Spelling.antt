-- How nodes are labelled.
use Rattle.std.proofs.Common.{◌≡◌, ℕ, zero, suc, ◌<◌, List, [], ◌∷◌, length, drop, flat_map, get_or, refl, sym, ◌∙◌, ap, subst, arith, inl, inr}
use Rattle.std.proofs.lemmas.List.{length-map}
use Rattle.std.proofs.lemmas.Bool.Decides.{leb_tells}
use Rattle.std.specs.declared.cmp.Ordering.TheVariants.{Less, Equal}
use Rattle.trie_build.specs.Order.{path_cmp}
use Rattle.text_core.specs.declared.byte_set.ByteSet.{ByteSet}
use Rattle.text_core.specs.declared.item.Item.{Item}
use Rattle.text_core.specs.declared.item.Item.TheVariants.{Byte, One, Many, Among}
use Rattle.trie_nodes.specs.declared.entry.Entry.{Entry}
use Rattle.trie_build.specs.Distinct.{IsDistinctOf, IsIn, Rises}
use Rattle.trie_build.specs.Paths.{paths_of, patterns_of}
use Rattle.trie_build.specs.Sizes.{last_label, set_in, sets_of}
use Rattle.text_bytes.specs.Insertion.{text_order}
use Rattle.trie_build.proofs.Children.{level_by_level}
use Rattle.trie_build.proofs.Distinguishing.{all_in, distinct_is, flat_map_in, get_in}
use Rattle.trie_build.proofs.Orders.{paths_order, texts_order}
use Rattle.trie_build.proofs.Paths.{paths_tree}
use Rattle.trie_build.specs.Tree.{IsLevelByLevel}
use Rattle.trie_build.specs.Accepted.{IsLabelled}
use Rattle.trie_build.specs.declared.records.NodeRecord.{NodeRecord}
use Rattle.trie_build.specs.Image.{as_set, draft_of, image_node}
use Rattle.trie_build.proofs.Imaging.{node_is, nodes_len}
use Rattle.trie_build.proofs.Members.{number_within}

-- what is not the root has a label
has_label : (z : List Item) → path_cmp [] z ≡ Less → 0 < length z
has_label [] less = let tie : path_cmp [] [] ≡ Equal = paths_order.itself [] in cc
has_label (x ∷ z) less = omega arith

module _ (es : List Entry) where
  abbrev all_paths : List (List Item)
  all_paths = paths_of es

  abbrev listed : List (List ℕ)
  listed = flat_map (λ p. set_in (last_label p)) all_paths

  all_sets : IsDistinctOf text_order listed (sets_of es)
  all_sets = distinct_is text_order texts_order listed

  -- the set of a path's last label is among the sets
  pub set_there : (p : List Item) (set : ByteSet) → IsIn p all_paths → last_label p ≡ Among set → IsIn set.bits (sets_of es)
  set_there p set i e =
      all_sets.has set.bits (flat_map_in (λ q. set_in (last_label q)) set.bits p all_paths i (subst (λ x. IsIn set.bits (set_in x)) (sym e) (inl refl)))

  levels : IsLevelByLevel all_paths
  levels = level_by_level all_paths (paths_tree (patterns_of es))

  pub root_path : get_or all_paths 0 [] ≡ []
  root_path = ap (λ l. get_or l 0 []) levels.first

  -- the node of a path that has a label
  own_label : (i : ℕ) (x : Item) (q : List Item) → 0 < i → IsIn (x ∷ q) all_paths → (y : Item) → last_label (x ∷ q) ≡ y → IsLabelled (length (sets_of es)) i (image_node es i (x ∷ q))
  own_label i x q h among (Byte b) e = rw e (record {
    root = ((λ k. absurd (omega arith)), (λ k. absurd (omega arith)));
    known = omega arith;
    byte = λ k. absurd (k refl);
    first_zero = refl;
    second_zero = refl;
    no_set = λ k. refl;
    a_set = λ k. absurd (omega arith);
  })
  own_label i x q h among One e = rw e (record {
    root = ((λ k. absurd (omega arith)), (λ k. absurd (omega arith)));
    known = omega arith;
    byte = λ k. refl;
    first_zero = refl;
    second_zero = refl;
    no_set = λ k. refl;
    a_set = λ k. absurd (omega arith);
  })
  own_label i x q h among Many e = rw e (record {
    root = ((λ k. absurd (omega arith)), (λ k. absurd (omega arith)));
    known = omega arith;
    byte = λ k. refl;
    first_zero = refl;
    second_zero = refl;
    no_set = λ k. refl;
    a_set = λ k. absurd (omega arith);
  })
  own_label i x q h among (Among set) e = rw e (record {
    root = ((λ k. absurd (omega arith)), (λ k. absurd (omega arith)));
    known = omega arith;
    byte = λ k. refl;
    first_zero = refl;
    second_zero = refl;
    no_set = λ k. absurd (k refl);
    a_set = λ k. number_within text_order texts_order set.bits (sets_of es) (set_there (x ∷ q) set among e);
  })

  root_label : IsLabelled (length (sets_of es)) 0 (image_node es 0 [])
  root_label = record {
    root = ((λ k. refl), (λ k. refl));
    known = omega arith;
    byte = λ k. refl;
    first_zero = refl;
    second_zero = refl;
    no_set = λ k. refl;
    a_set = λ k. absurd (omega arith);
  }

  by_path : (i : ℕ) (p : List Item) → IsIn p all_paths → (p ≡ [] → i ≡ 0) → (i ≡ 0 → p ≡ []) → IsLabelled (length (sets_of es)) i (image_node es i p)
  by_path i [] among root first = rw (root refl) root_label
  by_path zero (x ∷ q) among root first = absurd (let none : length (x ∷ q) ≡ 0 = ap length (first refl) in omega (arith, none))
  by_path (suc i) (x ∷ q) among root first = own_label (suc i) x q (omega arith) among (last_label (x ∷ q)) refl

  -- the paths after the first have a label
  pub after_root : (i : ℕ) → 0 < i → i < length all_paths → 0 < length (get_or all_paths i [])
  after_root zero h k = absurd (omega arith)
  after_root (suc i) h k =
      let rises : Rises path_cmp ([] ∷ drop 1 all_paths) = subst (Rises path_cmp) levels.first (paths_tree (patterns_of es)).rises in
      let len : length all_paths ≡ length ([] ∷ drop 1 all_paths) = ap length levels.first in
      let there : IsIn (get_or (drop 1 all_paths) i []) (drop 1 all_paths) = get_in [] (drop 1 all_paths) i (omega (arith, len)) in
      let same : get_or all_paths (suc i) [] ≡ get_or (drop 1 all_paths) i [] = ap (λ l. get_or l (suc i) []) levels.first in
      let some : 0 < length (get_or (drop 1 all_paths) i []) = has_label (get_or (drop 1 all_paths) i []) (all_in (λ q. path_cmp [] q ≡ Less) (get_or (drop 1 all_paths) i []) (drop 1 all_paths) rises.0 there) in
      subst (λ q. 0 < length q) (sym same) some

  pub labels : (i : ℕ) (n : NodeRecord) → i < length (draft_of es).nodes → IsLabelled (length (draft_of es).sets) i (get_or (draft_of es).nodes i n)
  labels i n h =
      let inside : i < length all_paths = omega (arith, h, nodes_len es) in
      let sets : length (draft_of es).sets ≡ length (sets_of es) = length-map (sets_of es) as_set in
      let root : get_or all_paths i [] ≡ [] → i ≡ 0 = λ e. elim (leb_tells i 0) [
        | inl t ↦ omega (arith, t.1)
        | inr t ↦ absurd (let none : length (get_or all_paths i []) ≡ 0 = ap length e in omega (arith, none, after_root i t.1 inside))
      ] in
      rw (sets, node_is es i n h) (by_path i (get_or all_paths i []) (get_in [] all_paths i inside) root (λ e. ap (λ k. get_or all_paths k []) e ∙ root_path))
