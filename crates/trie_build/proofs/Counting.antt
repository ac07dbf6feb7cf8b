-- How many paths, sets and names there are at most.
use Rattle.std.proofs.Common.{◌≡◌, ℕ, ◌+◌, ◌≤◌, List, ◌∷◌, [], ◌++◌, length, map, take, flat_map, refl, sym, ◌∙◌, ap, subst, arith, inl, inr}
use Rattle.std.proofs.Math.Logic.{⊎_elim}
use Rattle.std.proofs.lemmas.List.{length-map}
use Rattle.std.proofs.lemmas.List.FromFn.{length-range_with_len}
use Rattle.std.proofs.lemmas.List.Concat.{length-flat_map}
use Rattle.std.proofs.lemmas.List.Sums.{sum_by-append, sum_by-cons}
use Rattle.std.specs.List.{range_with_len, sum_by}
use Rattle.std.specs.declared.cmp.Ordering.{Ordering}
use Rattle.std.specs.declared.cmp.Ordering.TheVariants.{Less, Equal}
use Rattle.text_core.specs.declared.item.Item.{Item}
use Rattle.text_core.specs.declared.item.Item.TheVariants.{Byte, One, Many, Among}
use Rattle.trie_nodes.specs.declared.entry.Entry.{Entry}
use Rattle.trie_build.specs.Distinct.{IsDistinctOf, IsIn, Rises}
use Rattle.trie_build.proofs.TotalOrder.{IsOrder}
use Rattle.trie_build.specs.Order.{path_cmp}
use Rattle.trie_build.specs.Paths.{paths_among, paths_of}
use Rattle.trie_build.specs.Sizes.{last_label, names_of, set_in, sets_of}
use Rattle.text_bytes.specs.Insertion.{text_order}
use Rattle.trie_build.proofs.Distinguishing.{all_in, append_left, append_right, distinct_is, flat_map_in, in_append, in_map, map_in, range_in}
use Rattle.trie_build.proofs.Orders.{paths_order, texts_order}
use Rattle.trie_build.proofs.Paths.{path_is_prefix, paths_tree}

-- what is around a member
around : {A : Type 0} (x : A) (xs : List A) → IsIn x xs → (prefix : List A) × (back : List A) × (xs ≡ prefix ++ x ∷ back)
around x [] i = absurd i
around x (y ∷ ys) (inl e) = ([], ys, ap (λ z. z ∷ ys) (sym e))
around x (y ∷ ys) (inr i) = let w = around x ys i in (y ∷ w.0, w.1, ap (λ l. y ∷ l) w.2)

module _ {A : Type 0} (cmp : A → A → Ordering) (order : IsOrder cmp) where
  apart : (x y : A) → cmp x y ≡ Less → x ≡ y → ⊥
  apart x y less e = let tie : cmp x y ≡ Equal = ap (cmp x) (sym e) ∙ order.itself x in cc

  -- a rising list of members of another sums up to no more
  pub sum_within : (f : A → ℕ) (ys xs : List A) → Rises cmp ys → ((z : A) → IsIn z ys → IsIn z xs) → sum_by f ys ≤ sum_by f xs
  sum_within f [] xs up to = omega arith
  sum_within f (y ∷ ys) xs up to =
      let w = around y xs (to y (inl refl)) in
      let prefix : List A = w.0 in
      let back : List A = w.1 in
      let others : (z : A) → IsIn z ys → IsIn z (prefix ++ back) = λ z i.
      ⊎_elim (λ a. append_left z prefix back a) (λ b. ⊎_elim (λ e. absurd (apart y z (all_in (λ v. cmp y v ≡ Less) z ys up.0 i) (sym e))) (λ c. append_right z prefix back c) b)
      (in_append z prefix (y ∷ back) (subst (IsIn z) w.2 (to z (inr i)))) in
      let rest : sum_by f ys ≤ sum_by f (prefix ++ back) = sum_within f ys (prefix ++ back) up.1 others in
      let all : sum_by f xs ≡ sum_by f prefix + (f y + sum_by f back) = ap (sum_by f) w.2 ∙ sum_by-append f prefix (y ∷ back) ∙ ap (λ n. sum_by f prefix + n) (sum_by-cons f y back) in
      let some : sum_by f (prefix ++ back) ≡ sum_by f prefix + sum_by f back = sum_by-append f prefix back in
      omega (arith, rest, all, some, sum_by-cons f y ys)

sum_ones : {A : Type 0} (xs : List A) → sum_by (λ x. 1) xs ≡ length xs
sum_ones [] = refl
sum_ones (x ∷ xs) = let rest : sum_by (λ y. 1) xs ≡ length xs = sum_ones xs in omega (arith, rest, sum_by-cons (λ y. 1) x xs)

-- the prefixes of a pattern that are not empty
abbrev first_labels : List Item → List (List Item)
first_labels p = map (λ n. take n p) (range_with_len 1 (length p))

count_prefixes : (ps : List (List Item)) → sum_by (λ q. 1) (flat_map first_labels ps) ≡ sum_by length ps
count_prefixes [] = refl
count_prefixes (p ∷ ps) =
    let own : sum_by (λ q. 1) (first_labels p) ≡ length p = sum_ones (first_labels p) ∙ length-map (range_with_len 1 (length p)) (λ n. take n p) ∙ length-range_with_len 1 (length p) in
    let rest : sum_by (λ q. 1) (flat_map first_labels ps) ≡ sum_by length ps = count_prefixes ps in
    let both : sum_by (λ q. 1) (first_labels p ++ flat_map first_labels ps) ≡ sum_by (λ q. 1) (first_labels p) + sum_by (λ q. 1) (flat_map first_labels ps) = sum_by-append (λ q. 1) (first_labels p) (flat_map first_labels ps) in
    omega (arith, own, rest, both, sum_by-cons length p ps)

among_prefixes : (ps qs : List (List Item)) → ((p : List Item) → IsIn p ps → IsIn p qs) → (z : List Item) → IsIn z (paths_among ps) → IsIn z ([] ∷ flat_map first_labels qs)
among_prefixes ps qs to [] i = inl refl
among_prefixes ps qs to (x ∷ z) i =
    let w = path_is_prefix ps (x ∷ z) i (omega arith) in
    let p : List Item = w.0 in
    let n : ℕ = length (x ∷ z) in
    let prefix : IsIn (take n p) (first_labels p) = map_in (λ k. take k p) n (range_with_len 1 (length p)) (range_in n 1 (length p) (omega arith) (omega (arith, w.2))) in
    inr (flat_map_in first_labels (x ∷ z) p qs (to p w.1) (subst (λ q. IsIn q (first_labels p)) (sym w.3) prefix))

pub few_paths : (ps qs : List (List Item)) → ((p : List Item) → IsIn p ps → IsIn p qs) → length (paths_among ps) ≤ 1 + sum_by length qs
few_paths ps qs to =
    let within : sum_by (λ p. 1) (paths_among ps) ≤ sum_by (λ p. 1) ([] ∷ flat_map first_labels qs) =
    sum_within path_cmp paths_order (λ p. 1) (paths_among ps) ([] ∷ flat_map first_labels qs) (paths_tree ps).rises (among_prefixes ps qs to) in
    omega (arith, within, sum_by-cons (λ p. 1) [] (flat_map first_labels qs), sum_ones (paths_among ps), count_prefixes qs)

one_set : (x : Item) → length (set_in x) ≤ 1
one_set (Byte b) = omega arith
one_set One = omega arith
one_set Many = omega arith
one_set (Among set) = omega arith

sets_few : (ps : List (List Item)) → length (flat_map (λ p. set_in (last_label p)) ps) ≤ length ps
sets_few [] = omega arith
sets_few (p ∷ ps) =
    let rest : length (flat_map (λ q. set_in (last_label q)) ps) ≤ length ps = sets_few ps in
    let both : sum_by (λ q. length (set_in (last_label q))) (p ∷ ps) ≡ length (set_in (last_label p)) + sum_by (λ q. length (set_in (last_label q))) ps = sum_by-cons (λ q. length (set_in (last_label q))) p ps in
    let all : length (flat_map (λ q. set_in (last_label q)) (p ∷ ps)) ≡ sum_by (λ q. length (set_in (last_label q))) (p ∷ ps) = length-flat_map (λ q. set_in (last_label q)) (p ∷ ps) in
    let some : length (flat_map (λ q. set_in (last_label q)) ps) ≡ sum_by (λ q. length (set_in (last_label q))) ps = length-flat_map (λ q. set_in (last_label q)) ps in
    omega (arith, rest, both, all, some, one_set (last_label p))

pub few_sets : (es : List Entry) → length (sets_of es) ≤ length (paths_of es)
few_sets es =
    let listed : List (List ℕ) = flat_map (λ p. set_in (last_label p)) (paths_of es) in
    let is : IsDistinctOf text_order listed (sets_of es) = distinct_is text_order texts_order listed in
    let within : sum_by (λ s. 1) (sets_of es) ≤ sum_by (λ s. 1) listed = sum_within text_order texts_order (λ s. 1) (sets_of es) listed is.rises is.only in
    omega (arith, within, sum_ones (sets_of es), sum_ones listed, sets_few (paths_of es))

pub few_names : (es : List Entry) (names : List (List ℕ)) → ((e : Entry) → IsIn e es → IsIn e.file names) → sum_by length (names_of es) ≤ sum_by length names
few_names es names to =
    let listed : List (List ℕ) = map (λ (e : Entry). e.file) es in
    let is : IsDistinctOf text_order listed (names_of es) = distinct_is text_order texts_order listed in
    sum_within text_order texts_order length (names_of es) names is.rises (λ z i. let w = in_map (λ (e : Entry). e.file) z es (is.only z i) in subst (λ n. IsIn n names) (sym w.2) (to w.0 w.1))
