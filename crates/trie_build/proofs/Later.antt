-- The children of a tree's paths follow them.
use Rattle.std.proofs.Common.{◌≡◌, ℕ, zero, suc, ◌+◌, ◌<◌, ◌≤◌, List, [], ◌∷◌, ◌++◌, length, take, drop, flat_map, refl, sym, ◌∙◌, ap, subst, arith, inl, inr, ◌⊎◌, length-append, true}
use Rattle.std.proofs.Math.Logic.{⊎_elim}
use Rattle.std.specs.List.{sum_by, count_by}
use Rattle.std.specs.declared.cmp.Ordering.{Ordering}
use Rattle.std.specs.declared.cmp.Ordering.TheVariants.{Less, Equal}
use Rattle.std.proofs.lemmas.Bool.Decides.{leb_tells}
use Rattle.std.proofs.lemmas.List.{take-append-drop}
use Rattle.std.proofs.lemmas.List.Concat.{flat_map-append, length-flat_map}
use Rattle.std.proofs.lemmas.List.Sums.{length-filter}
use Rattle.text_core.specs.declared.item.Item.{Item}
use Rattle.trie_build.specs.Distinct.{IsIn, Rises}
use Rattle.trie_build.specs.Paths.{children_in, is_child}
use Rattle.trie_build.specs.Order.{path_cmp}
use Rattle.trie_build.specs.Tree.{IsLevelByLevel, IsTree}
use Rattle.trie_build.proofs.Children.{child_above, level_by_level}
use Rattle.trie_build.proofs.Distinguishing.{all_in, in_filter, in_flat_map}
use Rattle.trie_build.proofs.Orders.{paths_order}

drop_in : {A : Type 0} (b : A) (i : ℕ) (xs : List A) → IsIn b (drop i xs) → IsIn b xs
drop_in b zero xs h = h
drop_in b (suc i) [] h = absurd h
drop_in b (suc i) (x ∷ xs) h = inr (drop_in b i xs h)

-- in a rising list, what is up to place i is not above what is from i on
prefix_below : {A : Type 0} (cmp : A → A → Ordering) (i : ℕ) (xs : List A) (a b : A) → Rises cmp xs → IsIn a (take (suc i) xs) → IsIn b (drop i xs) → (a ≡ b) ⊎ (cmp a b ≡ Less)
prefix_below cmp zero [] a b h i j = absurd j
prefix_below cmp zero (x ∷ xs) a b h (inl e) (inl f) = inl (e ∙ sym f)
prefix_below cmp zero (x ∷ xs) a b h (inl e) (inr j) = inr (subst (λ w. cmp w b ≡ Less) (sym e) (all_in (λ z. cmp x z ≡ Less) b xs h.0 j))
prefix_below cmp zero (x ∷ xs) a b h (inr i) j = absurd i
prefix_below cmp (suc n) [] a b h i j = absurd j
prefix_below cmp (suc n) (x ∷ xs) a b h (inl e) j = inr (subst (λ w. cmp w b ≡ Less) (sym e) (all_in (λ z. cmp x z ≡ Less) b xs h.0 (drop_in b n xs j)))
prefix_below cmp (suc n) (x ∷ xs) a b h (inr i) j = prefix_below cmp n xs a b h.1 i j

seam_in : {A : Type 0} (g : A) (i : ℕ) (prefix more : List A) → length prefix < i → IsIn g (take i (prefix ++ g ∷ more))
seam_in g zero prefix more h = absurd (omega arith)
seam_in g (suc i) [] more h = inl refl
seam_in g (suc i) (x ∷ prefix) more h = inr (seam_in g i prefix more (omega arith))

module _ (ps : List (List Item)) (t : IsTree ps) where
  levels : IsLevelByLevel ps
  levels = level_by_level ps t

  -- no path up to i is a child of one from i on
  no_child : (i : ℕ) (p g : List Item) → IsIn g (take (suc i) ps) → IsIn p (drop i ps) → is_child p g ≡ true → ⊥
  no_child i p g here there child =
      let above : path_cmp p g ≡ Less = child_above p g child in
      let itself : path_cmp p p ≡ Equal = paths_order.itself p in
      ⊎_elim (λ e. let tie : path_cmp p g ≡ Equal = ap (path_cmp p) e ∙ itself in cc)
      (λ less. let round : path_cmp p p ≡ Less = paths_order.trans p g p above less in cc)
      (prefix_below path_cmp i ps g p t.rises here there)

  abbrev before : ℕ → List (List Item)
  before i = flat_map (children_in ps) (take i ps)

  abbrev following : ℕ → List (List Item)
  following i = flat_map (children_in ps) (drop i ps)

  split : (i : ℕ) → drop 1 ps ≡ before i ++ following i
  split i = sym levels.children ∙ ap (flat_map (children_in ps)) (sym (take-append-drop i ps)) ∙ flat_map-append (children_in ps) (take i ps) (drop i ps)

  enough : (i : ℕ) → i < length ps → (rest : List (List Item)) → drop 1 ps ≡ before i ++ rest → ((g : List Item) → IsIn g rest → IsIn g (following i)) → i ≤ length (before i)
  enough i h [] e among =
      let whole : length ps ≡ length ([] ∷ drop 1 ps) = ap length levels.first in
      let len : length (drop 1 ps) ≡ length (before i) + 0 = ap length e ∙ length-append (before i) [] in
      omega (arith, whole, len)
  enough i h (g ∷ rest) e among = ⊎_elim (λ t. t.1) (λ f. absurd (
      let w = in_flat_map (children_in ps) g (drop i ps) (among g (inl refl)) in
      let child = in_filter (is_child w.0) g ps w.2 in
      let here : IsIn g (take i (drop 1 ps)) = subst (λ l. IsIn g (take i l)) (sym e) (seam_in g i (before i) rest f.1) in
      let there : IsIn g (take (suc i) ps) = subst (λ l. IsIn g (take (suc i) l)) (sym levels.first) (inr here) in
      no_child i w.0 g there w.1 child.1)) (leb_tells i (length (before i)))

  -- the first i paths have i children or more
  pub children_enough : (i : ℕ) → i < length ps → i ≤ length (before i)
  children_enough i h = enough i h (following i) (split i) (λ g j. j)

  pub later : (i : ℕ) → i < length ps → i < 1 + sum_by (λ p. count_by (is_child p) ps) (take i ps)
  later i h =
      let counts : length (before i) ≡ sum_by (λ p. count_by (is_child p) ps) (take i ps) = length-flat_map (children_in ps) (take i ps) ∙ simp length-filter in
      let some : i ≤ length (before i) = children_enough i h in
      omega (arith, counts, some)
