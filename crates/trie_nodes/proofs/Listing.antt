-- What the active nodes have is what the listed entries that fit have.
use Rattle.std.proofs.Common.{◌≡◌, ℕ, ◌+◌, ◌-◌, ◌<◌, Bool, true, false, cond, List, ◌∷◌, [], ◌++◌, filter, map, fold, append_assoc, refl, sym, ◌∙◌, ap}
use Rattle.std.specs.List.{flat_map, range_with_len}
use Rattle.std.proofs.lemmas.List.{map-append}
use Rattle.text_core.specs.declared.item.Item.{Item}
use Rattle.text_core.specs.Fits.{fits}
use Rattle.trie_nodes.specs.declared.entry.Entry.{Entry}
use Rattle.trie_nodes.specs.Found.{stripped}
use Rattle.trie_nodes.specs.Query.{put, winners}
use Rattle.trie_nodes.proofs.Stripping.{fold_same}
use Rattle.trie_nodes.specs.declared.node.Node.{Node}
use Rattle.trie_nodes.specs.Tree.{numbers, path, is_active, active_after}
use Rattle.trie_nodes.specs.Values.{Value, bare, entry, listed, value_at, values_of}
use Rattle.trie_nodes.proofs.Picking.{range_step}

abbrev fits_entry : List ℕ → Entry → Bool
fits_entry m e = fits e.pattern m

filter-append : (p : Entry → Bool) (xs ys : List Entry) → filter p (xs ++ ys) ≡ filter p xs ++ filter p ys
filter-append p [] ys = refl
filter-append p (x ∷ xs) ys = elim (p x) as (λ v. cond v (x ∷ filter p (xs ++ ys)) (filter p (xs ++ ys)) ≡ cond v (x ∷ filter p xs) (filter p xs) ++ filter p ys) [
  | true ↦ ap (λ (l : List Entry). x ∷ l) (filter-append p xs ys)
  | false ↦ filter-append p xs ys
]

-- of the entries of one node all fit, or none
of_one : (m : List ℕ) (p : List Item) (vs : List Value) → filter (fits_entry m) (map (entry p) vs) ≡ cond (fits p m) (map (entry p) vs) []
of_one m p [] = elim (fits p m) as (λ v. ◌≡◌ {A = List Entry} [] (cond v [] [])) [ true ↦ refl | false ↦ refl ]
of_one m p (v ∷ vs) = ap (λ l. cond (fits p m) (entry p v ∷ l) l) (of_one m p vs) ∙ twice (fits p m) where
  twice : (b : Bool) → cond b (entry p v ∷ cond b (map (entry p) vs) []) (cond b (map (entry p) vs) []) ≡ cond b (entry p v ∷ map (entry p) vs) []
  twice true = refl
  twice false = refl

module _ (nodes : List Node) (values : List Value) (m : List ℕ) where
  abbrev at : ℕ → List Entry
  at i = map (entry (path nodes i)) (values_of nodes values i)

  fit_listed : (xs : List ℕ) → filter (fits_entry m) (flat_map at xs) ≡ flat_map at (filter (is_active nodes m) xs)
  fit_listed [] = refl
  fit_listed (x ∷ xs) =
      filter-append (fits_entry m) (at x) (flat_map at xs)
      ∙ ap (λ l. l ++ filter (fits_entry m) (flat_map at xs)) (of_one m (path nodes x) (values_of nodes values x))
      ∙ ap (λ l. cond (is_active nodes m x) (at x) [] ++ l) (fit_listed xs)
      ∙ gate (is_active nodes m x) where
        gate : (b : Bool) → cond b (at x) [] ++ flat_map at (filter (is_active nodes m) xs) ≡ flat_map at (cond b (x ∷ filter (is_active nodes m) xs) (filter (is_active nodes m) xs))
        gate true = refl
        gate false = refl

  without_pattern : (p : List Item) (vs : List Value) (es : List Entry) → map stripped (map (entry p) vs ++ es) ≡ map bare vs ++ map stripped es
  without_pattern p [] es = refl
  without_pattern p (v ∷ vs) es = ap (λ (l : List Entry). bare v ∷ l) (without_pattern p vs es)

  properties : (xs : List ℕ) → map stripped (flat_map at xs) ≡ map bare (flat_map (values_of nodes values) xs)
  properties [] = refl
  properties (x ∷ xs) =
      without_pattern (path nodes x) (values_of nodes values x) (flat_map at xs)
      ∙ ap (λ (l : List Entry). map bare (values_of nodes values x) ++ l) (properties xs)
      ∙ sym (map-append bare (values_of nodes values x) (flat_map (values_of nodes values) xs))

-- what the active nodes have that counts
pub winners_by_nodes : (nodes : List Node) (values : List Value) (m : List ℕ)
    → map stripped (winners (listed nodes values) m) ≡ fold put [] (map bare (flat_map (values_of nodes values) (active_after nodes m)))
winners_by_nodes nodes values m =
    ap (λ l. map stripped (fold put [] l)) (fit_listed nodes values m (numbers nodes))
    ∙ fold_same [] (flat_map (at nodes values m) (active_after nodes m))
    ∙ ap (fold put []) (properties nodes values m (active_after nodes m))

-- one value more is added
pub push_next : (vs : List Value) (acc acc2 : List Entry) (e : Entry) (j end : ℕ) → j < end → e ≡ bare (value_at vs j) → acc2 ≡ acc ++ e ∷ []
    → acc2 ++ map bare (map (value_at vs) (range_with_len (j + 1) (end - (j + 1)))) ≡ acc ++ map bare (map (value_at vs) (range_with_len j (end - j)))
push_next vs acc acc2 e j end h is grown =
    let rest : List Entry = map bare (map (value_at vs) (range_with_len (j + 1) (end - (j + 1)))) in
    ap (λ (l : List Entry). l ++ rest) grown
    ∙ append_assoc acc (e ∷ []) rest
    ∙ ap (λ (x : Entry). acc ++ x ∷ rest) is
    ∙ ap (λ l. acc ++ map bare (map (value_at vs) l)) (sym (range_step j end h))
