-- Node by node, the entries are the entries, each once.
use Rattle.std.proofs.Common.{◌≡◌, Bool, true, false, cond, not, List, [], ◌∷◌, ◌++◌, filter, flat_map, refl, sym, ◌∙◌, ap, subst, inl, inr}
use Rattle.std.proofs.Math.Logic.{⊎_elim}
use Rattle.std.proofs.lemmas.List.Sorted.{IsPermutation-append_right, IsPermutation-filter_both, IsPermutation-refl, IsPermutation-trans}
use Rattle.std.specs.List.Sorted.{IsPermutation}
use Rattle.std.specs.declared.cmp.Ordering.TheVariants.{Less, Equal}
use Rattle.text_core.specs.declared.item.Item.{Item}
use Rattle.trie_nodes.specs.declared.entry.Entry.{Entry}
use Rattle.trie_build.specs.Distinct.{IsIn, Rises}
use Rattle.std.specs.Ordering.{is_eq}
use Rattle.trie_build.specs.Order.{path_cmp}
use Rattle.trie_build.specs.Paths.{ending_at, paths_of, patterns_of, same_path}
use Rattle.trie_build.proofs.Distinguishing.{all_in, in_filter}
use Rattle.trie_build.proofs.Orders.{paths_order}
use Rattle.trie_build.proofs.Paths.{paths_tree}
use Rattle.trie_build.specs.Image.{by_nodes}
use Rattle.trie_build.proofs.Members.{pattern_in, tied}

-- what passes the first test passes the second
filter_twice : {A : Type 0} (f g : A → Bool) → ((x : A) → f x ≡ true → g x ≡ true) → (xs : List A) → filter f (filter g xs) ≡ filter f xs
filter_twice f g both [] = refl
filter_twice f g both (x ∷ xs) = by (f x) (g x) refl refl (filter_twice f g both xs) where
  by : (a b : Bool) → f x ≡ a → g x ≡ b → filter f (filter g xs) ≡ filter f xs → filter f (cond b (x ∷ filter g xs) (filter g xs)) ≡ cond a (x ∷ filter f xs) (filter f xs)
  by a true e h on = rw e (ap (λ l. cond a (x ∷ l) l) on)
  by false false e h on = on
  by true false e h on = absurd (let passes : g x ≡ true = both x e in cc)

flat_map_same : {A B : Type 0} (f g : A → List B) (xs : List A) → ((x : A) → IsIn x xs → f x ≡ g x) → flat_map f xs ≡ flat_map g xs
flat_map_same f g [] same = refl
flat_map_same f g (x ∷ xs) same = ap (λ l. l ++ flat_map f xs) (same x (inl refl)) ∙ ap (λ l. g x ++ l) (flat_map_same f g xs (λ y i. same y (inr i)))

is_same : (p q : List Item) → same_path p q ≡ true → p ≡ q
is_same p q h = paths_order.same p q (tied (path_cmp p q) h)

no_others : (p q r : List Item) → path_cmp p q ≡ Less → same_path r q ≡ true → same_path r p ≡ false
no_others p q r less h = by (same_path r p) refl where
  by : (v : Bool) → same_path r p ≡ v → same_path r p ≡ false
  by false e = e
  by true e = absurd (
      let same : p ≡ q = sym (is_same r p e) ∙ is_same r q h in
      let tie : path_cmp p q ≡ Equal = ap (path_cmp p) (sym same) ∙ paths_order.itself p in
      cc)

permuted : (ps : List (List Item)) (es : List Entry) → Rises path_cmp ps → ((e : Entry) → IsIn e es → IsIn e.pattern ps) → IsPermutation es (flat_map (ending_at es) ps)
permuted [] [] up among = IsPermutation-refl []
permuted [] (e ∷ es) up among = absurd (among e (inl refl))
permuted (p ∷ ps) es up among =
    let own : Entry → Bool = λ e. same_path e.pattern p in
    let others : Entry → Bool = λ e. not (same_path e.pattern p) in
    let rest : List Entry = filter others es in
    let split : IsPermutation es (filter own es ++ rest) = IsPermutation-filter_both own others (λ e. refl) es in
    let left : (e : Entry) → IsIn e rest → IsIn e.pattern ps = λ e i.
    let w = in_filter others e es i in
    ⊎_elim (λ same. absurd (let tie : same_path e.pattern p ≡ true = ap (λ q. same_path q p) same ∙ ap is_eq (paths_order.itself p) in let not_own : not (same_path e.pattern p) ≡ true = w.1 in cc)) (λ j. j) (among e w.0) in
    let on : IsPermutation rest (flat_map (ending_at rest) ps) = permuted ps rest up.1 left in
    let same : flat_map (ending_at rest) ps ≡ flat_map (ending_at es) ps =
    flat_map_same (ending_at rest) (ending_at es) ps (λ q i. filter_twice (λ (e : Entry). same_path e.pattern q) others
    (λ e h. ap not (no_others p q e.pattern (all_in (λ z. path_cmp p z ≡ Less) q ps up.0 i) h)) es) in
    IsPermutation-trans es (filter own es ++ rest) (filter own es ++ flat_map (ending_at es) ps) split
    (IsPermutation-append_right (filter own es) rest (flat_map (ending_at es) ps) (subst (IsPermutation rest) same on))

pub nodes_permute : (es : List Entry) → IsPermutation es (by_nodes es)
nodes_permute es = permuted (paths_of es) es (paths_tree (patterns_of es)).rises (λ e i. pattern_in es e i)
