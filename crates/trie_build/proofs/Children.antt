-- The children of a tree's paths, path by path.
use Rattle.std.proofs.Common.{◌≡◌, ℕ, suc, ◌+◌, ◌-◌, ◌<◌, true, ◌&&◌, eqb, List, [], ◌∷◌, ◌++◌, length, length-append, take, drop, flat_map, refl, sym, ◌∙◌, ap, subst, arith, inl, inr, eq-eqb}
use Rattle.std.proofs.Math.Logic.{⊎_elim}
use Rattle.std.proofs.lemmas.Bool.{and_parts, eqb-true}
use Rattle.std.proofs.lemmas.Cmp.{nat_cmp_total, ranked, tied_itself}
use Rattle.std.proofs.lemmas.List.{length-take, take-append-drop}
use Rattle.std.specs.Cmp.Lexicographic.{slice_cmp}
use Rattle.std.specs.Ordering.{MatchOrdering, is_eq, nat_cmp, ordering_then}
use Rattle.std.specs.declared.cmp.Ordering.{Ordering}
use Rattle.std.specs.declared.cmp.Ordering.TheVariants.{Less, Equal, Greater}
use Rattle.text_core.specs.declared.item.Item.{Item}
use Rattle.trie_build.specs.Distinct.{IsIn, Rises}
use Rattle.trie_build.specs.Paths.{children_in, is_child, same_path}
use Rattle.trie_build.specs.Order.{label_cmp, path_cmp, pattern_cmp}
use Rattle.trie_build.specs.Tree.{IsLevelByLevel, IsTree}
use Rattle.trie_build.proofs.Distinguishing.{all_in, filter_in, flat_map_in, in_filter, in_flat_map, one_list, rises_filter, rises_flat_map}
use Rattle.trie_build.proofs.Orders.{labels_order, paths_order}

pub tied : (o : Ordering) → is_eq o ≡ true → o ≡ Equal
tied Less h = cc
tied Equal h = refl
tied Greater h = cc

-- a child has one label more than its parent
pub record IsChildOf (p c : List Item) : Type 0 where
  pub longer : length c ≡ length p + 1
  pub begins : take (length p) c ≡ p

pub child_of : (p c : List Item) → is_child p c ≡ true → IsChildOf p c
child_of p c h =
    let parts = and_parts (eqb (length c) (length p + 1)) (same_path p (take (length p) c)) h in
    record {
      longer = eqb-true (length c) (length p + 1) parts.0;
      begins = sym (paths_order.same p (take (length p) c) (tied (path_cmp p (take (length p) c)) parts.1));
    }

pub of_child : (p c : List Item) → length c ≡ length p + 1 → take (length p) c ≡ p → is_child p c ≡ true
of_child p c e f =
    ap (λ v. v && same_path p (take (length p) c)) (eq-eqb (length c) (length p + 1) e)
    ∙ ap (λ (q : List Item). is_eq (path_cmp p q)) f ∙ ap is_eq (paths_order.itself p)

-- what is below stays so with more labels after
longer_below : (p q us vs : List Item) → length p ≡ length q → slice_cmp label_cmp p q ≡ Less → slice_cmp label_cmp (p ++ us) (q ++ vs) ≡ Less
longer_below [] [] us vs e h = cc
longer_below [] (y ∷ q) us vs e h = absurd (omega arith)
longer_below (x ∷ p) [] us vs e h = absurd (omega arith)
longer_below (x ∷ p) (y ∷ q) us vs e h = by (label_cmp x y) (longer_below p q us vs (omega arith)) h where
  by : (o : Ordering) → (slice_cmp label_cmp p q ≡ Less → slice_cmp label_cmp (p ++ us) (q ++ vs) ≡ Less) → ordering_then o (slice_cmp label_cmp p q) ≡ Less
      → ordering_then o (slice_cmp label_cmp (p ++ us) (q ++ vs)) ≡ Less
  by Less rest h = refl
  by Equal rest h = rest h
  by Greater rest h = cc

less_is : (m n : ℕ) → m < n → nat_cmp m n ≡ Less
less_is m n h = by (nat_cmp m n) refl (ranked m n (nat_cmp m n) refl) where
  by : (o : Ordering) → nat_cmp m n ≡ o → MatchOrdering o (m < n) (m ≡ n) (n < m) → nat_cmp m n ≡ Less
  by Less e r = e
  by Equal e r = absurd (omega arith)
  by Greater e r = absurd (omega arith)

-- the children of a path are below those of a path after it
children_below : (p q c e : List Item) → path_cmp p q ≡ Less → IsChildOf p c → IsChildOf q e → path_cmp c e ≡ Less
children_below p q c e less f g = by (nat_cmp (length p) (length q)) (ranked (length p) (length q) (nat_cmp (length p) (length q)) refl) less where
  by : (o : Ordering) → MatchOrdering o (length p < length q) (length p ≡ length q) (length q < length p) → ordering_then o (slice_cmp label_cmp p q) ≡ Less → path_cmp c e ≡ Less
  by Less r h =
      let far : length c < length e = omega (arith, f.longer, g.longer) in
      ap (λ o. ordering_then o (slice_cmp label_cmp c e)) (less_is (length c) (length e) far)
  by Equal r h =
      let len : length c ≡ length e = omega (arith, f.longer, g.longer) in
      let tie : nat_cmp (length c) (length e) ≡ Equal = ap (λ n. nat_cmp (length c) n) (sym len) ∙ tied_itself nat_cmp_total (length c) in
      let split_c : p ++ drop (length p) c ≡ c = ap (λ (l : List Item). l ++ drop (length p) c) (sym f.begins) ∙ take-append-drop (length p) c in
      let split_e : q ++ drop (length q) e ≡ e = ap (λ (l : List Item). l ++ drop (length q) e) (sym g.begins) ∙ take-append-drop (length q) e in
      let below : slice_cmp label_cmp (p ++ drop (length p) c) (q ++ drop (length q) e) ≡ Less = longer_below p q (drop (length p) c) (drop (length q) e) r h in
      ap (λ o. ordering_then o (slice_cmp label_cmp c e)) tie ∙ ap (λ l. slice_cmp label_cmp l e) (sym split_c) ∙ ap (slice_cmp label_cmp (p ++ drop (length p) c)) (sym split_e) ∙ below
  by Greater r h = cc

-- a child is above its parent
pub child_above : (p c : List Item) → is_child p c ≡ true → path_cmp p c ≡ Less
child_above p c h =
    let child : IsChildOf p c = child_of p c h in
    ap (λ o. ordering_then o (slice_cmp label_cmp p c)) (less_is (length p) (length c) (omega (arith, child.longer)))

-- the root comes first
root_first : (ps : List (List Item)) → Rises path_cmp ps → IsIn [] ps → ps ≡ [] ∷ drop 1 ps
root_first [] h i = absurd i
root_first (p ∷ ps) h (inl e) = ap (λ q. q ∷ ps) (sym e)
root_first ([] ∷ ps) h (inr i) = refl
root_first ((x ∷ p) ∷ ps) h (inr i) =
    absurd (by (nat_cmp (suc (length p)) 0) (ranked (suc (length p)) 0 (nat_cmp (suc (length p)) 0) refl) (all_in (λ z. path_cmp (x ∷ p) z ≡ Less) [] ps h.0 i)) where
      by : (o : Ordering) → MatchOrdering o (suc (length p) < 0) (suc (length p) ≡ 0) (0 < suc (length p)) → ordering_then o (slice_cmp label_cmp (x ∷ p) []) ≡ Less → ⊥
      by Less r e = omega arith
      by Equal r e = omega arith
      by Greater r e = cc

-- what is not the root has a label
has_label : (z : List Item) → path_cmp [] z ≡ Less → 0 < length z
has_label [] less = let tie : path_cmp [] [] ≡ Equal = paths_order.itself [] in cc
has_label (x ∷ z) less = omega arith

module _ (ps : List (List Item)) (t : IsTree ps) where
  first : ps ≡ [] ∷ drop 1 ps
  first = root_first ps t.rises t.root

  rest_rises : Rises path_cmp ([] ∷ drop 1 ps)
  rest_rises = subst (Rises path_cmp) first t.rises

  -- a child is a path, and not the root
  to : (z : List Item) → IsIn z (flat_map (children_in ps) ps) → IsIn z (drop 1 ps)
  to z i =
      let w = in_flat_map (children_in ps) z ps i in
      let kept = in_filter (is_child w.0) z ps w.2 in
      let child : IsChildOf w.0 z = child_of w.0 z kept.1 in
      let among : IsIn z ([] ∷ drop 1 ps) = subst (IsIn z) first kept.0 in
      ⊎_elim (λ e. absurd (let none : length z ≡ 0 = ap length e in omega (arith, none, child.longer))) (λ j. j) among

  -- a path that is not the root is a child of the one without its last label
  fro : (z : List Item) → IsIn z (drop 1 ps) → IsIn z (flat_map (children_in ps) ps)
  fro z i =
      let there : IsIn z ps = subst (IsIn z) (sym first) (inr i) in
      let some : 0 < length z = has_label z (all_in (λ q. path_cmp [] q ≡ Less) z (drop 1 ps) rest_rises.0 i) in
      let parent : List Item = take (length z - 1) z in
      let len : length parent ≡ length z - 1 = simp length-take (omega arith) in
      let child : is_child parent z ≡ true = of_child parent z (omega (arith, len)) (ap (λ n. take n z) len) in
      flat_map_in (children_in ps) z parent ps (t.closed z there some) (filter_in (is_child parent) z ps there child)

  pub level_by_level : IsLevelByLevel ps
  level_by_level = record {
    first = first;
    children = one_list path_cmp paths_order (flat_map (children_in ps) ps) (drop 1 ps)
        (rises_flat_map path_cmp (children_in ps) (λ p. rises_filter path_cmp (is_child p) ps t.rises)
        (λ p q a b less i j. children_below p q a b less (child_of p a (in_filter (is_child p) a ps i).1) (child_of q b (in_filter (is_child q) b ps j).1)) ps t.rises)
        rest_rises.1 to fro;
  }

-- what begins alike compares as the rest does
pub same_prefix : (q us vs : List Item) → pattern_cmp (q ++ us) (q ++ vs) ≡ pattern_cmp us vs
same_prefix [] us vs = refl
same_prefix (x ∷ q) us vs = ap (λ o. ordering_then o (pattern_cmp (q ++ us) (q ++ vs))) (labels_order.itself x) ∙ same_prefix q us vs

-- of two children of one path, that with the lower label is below
pub children_rise : (q : List Item) (a b : Item) → label_cmp a b ≡ Less → path_cmp (q ++ a ∷ []) (q ++ b ∷ []) ≡ Less
children_rise q a b less =
    let len : length (q ++ a ∷ []) ≡ length (q ++ b ∷ []) = length-append q (a ∷ []) ∙ sym (length-append q (b ∷ [])) in
    let tie : nat_cmp (length (q ++ a ∷ [])) (length (q ++ b ∷ [])) ≡ Equal = ap (λ n. nat_cmp (length (q ++ a ∷ [])) n) (sym len) ∙ tied_itself nat_cmp_total (length (q ++ a ∷ [])) in
    ap (λ o. ordering_then o (pattern_cmp (q ++ a ∷ []) (q ++ b ∷ []))) tie
    ∙ same_prefix q (a ∷ []) (b ∷ []) ∙ ap (λ o. ordering_then o (pattern_cmp [] [])) less
