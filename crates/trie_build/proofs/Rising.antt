-- The orders of the entries of one path rise.
use Rattle.std.proofs.Common.{◌≡◌, ℕ, zero, suc, ◌+◌, ◌-◌, ◌<◌, ◌≤◌, List, [], ◌∷◌, length, take, flat_map, get_or, refl, sym, ◌∙◌, ap, subst, arith}
use Rattle.std.proofs.lemmas.Cmp.{ranked}
use Rattle.std.proofs.lemmas.List.Concat.{get_or-flat_map, length-flat_map}
use Rattle.std.proofs.lemmas.List.Folds.{length-flat_map-take}
use Rattle.std.specs.List.{AllByRecursion, sum_by}
use Rattle.std.specs.Ordering.{MatchOrdering, nat_cmp}
use Rattle.std.specs.declared.cmp.Ordering.{Ordering}
use Rattle.std.specs.declared.cmp.Ordering.TheVariants.{Less, Equal, Greater}
use Rattle.text_core.specs.declared.item.Item.{Item}
use Rattle.trie_nodes.specs.Orders.{Rising}
use Rattle.trie_nodes.specs.declared.entry.Entry.{Entry}
use Rattle.trie_build.specs.Distinct.{Rises}
use Rattle.trie_build.specs.Paths.{ending_at, paths_of, same_path}
use Rattle.trie_build.proofs.Distinguishing.{rises_filter}
use Rattle.trie_build.specs.declared.records.NodeRecord.{NodeRecord}
use Rattle.trie_build.specs.declared.records.ValueRecord.{ValueRecord}
use Rattle.trie_build.specs.Image.{by_nodes, draft_of, value_count}
use Rattle.trie_build.proofs.Imaging.{no_entry, node_is, nodes_len, value_is, values_len}

-- how entries compare by their orders
abbrev order_cmp : Entry → Entry → Ordering
order_cmp e f = nat_cmp e.order f.order

less_means : (m n : ℕ) → nat_cmp m n ≡ Less → m < n
less_means m n h = by (nat_cmp m n) h (ranked m n (nat_cmp m n) refl) where
  by : (o : Ordering) → o ≡ Less → MatchOrdering o (m < n) (m ≡ n) (n < m) → m < n
  by Less e r = r
  by Equal e r = cc
  by Greater e r = cc

less_is : (m n : ℕ) → m < n → nat_cmp m n ≡ Less
less_is m n h = by (nat_cmp m n) refl (ranked m n (nat_cmp m n) refl) where
  by : (o : Ordering) → nat_cmp m n ≡ o → MatchOrdering o (m < n) (m ≡ n) (n < m) → nat_cmp m n ≡ Less
  by Less e r = e
  by Equal e r = absurd (omega arith)
  by Greater e r = absurd (omega arith)

-- each order is below the next
abbrev Steps : List Entry → Type 0
Steps xs = (k : ℕ) (d : Entry) → k + 1 < length xs → (get_or xs k d).order < (get_or xs (k + 1) d).order

all_above : (x y : Entry) → x.order < y.order → (xs : List Entry) → AllByRecursion (λ z. order_cmp y z ≡ Less) xs → AllByRecursion (λ z. order_cmp x z ≡ Less) xs
all_above x y less [] h = tt
all_above x y less (z ∷ xs) h = (less_is x.order z.order (omega (arith, less, less_means y.order z.order h.0)), all_above x y less xs h.1)

rises_from : (xs : List Entry) → Steps xs → Rises order_cmp xs
rises_from [] s = tt
rises_from (x ∷ []) s = (tt, tt)
rises_from (x ∷ y ∷ xs) s =
    let less : x.order < y.order = s 0 x (omega arith) in
    let on : Rises order_cmp (y ∷ xs) = rises_from (y ∷ xs) (λ k d h.
    let same : suc k + 1 ≡ suc (k + 1) = omega arith in
    subst (λ m. (get_or (y ∷ xs) k d).order < (get_or (x ∷ y ∷ xs) m d).order) same (s (suc k) d (omega arith))) in
    ((less_is x.order y.order less, all_above x y less xs on.0), on)

rises_next : (xs : List Entry) → Rises order_cmp xs → Steps xs
rises_next [] r k d h = absurd (omega arith)
rises_next (x ∷ []) r k d h = absurd (omega arith)
rises_next (x ∷ y ∷ xs) r zero d h = less_means x.order y.order r.0.0
rises_next (x ∷ y ∷ xs) r (suc k) d h =
    let same : suc (k + 1) ≡ suc k + 1 = omega arith in
    subst (λ m. (get_or (y ∷ xs) k d).order < (get_or (x ∷ y ∷ xs) m d).order) same (rises_next (y ∷ xs) r.1 k d (omega arith))

module _ (es : List Entry) (rising : Rising es) where
  own_steps : (p : List Item) → Steps (ending_at es p)
  own_steps p = rises_next (ending_at es p) (rises_filter order_cmp (λ (e : Entry). same_path e.pattern p) es (rises_from es (λ k d h. rising.orders k d h)))

  pub orders : (i j : ℕ) (n : NodeRecord) (v : ValueRecord) → i < length (draft_of es).nodes → (get_or (draft_of es).nodes i n).first_value ≤ j
      → j + 1 < (get_or (draft_of es).nodes i n).first_value + (get_or (draft_of es).nodes i n).values
      → (get_or (draft_of es).values j v).order < (get_or (draft_of es).values (j + 1) v).order
  orders i j n v h low high =
      let inside : i < length (paths_of es) = omega (arith, nodes_len es) in
      let p : List Item = get_or (paths_of es) i [] in
      let own : List Entry = ending_at es p in
      let prefix : ℕ = length (flat_map (ending_at es) (take i (paths_of es))) in
      let first : (get_or (draft_of es).nodes i n).first_value ≡ sum_by (value_count es) (take i (paths_of es)) = ap (λ (m : NodeRecord). m.first_value) (node_is es i n h) in
      let count : (get_or (draft_of es).nodes i n).values ≡ length own = ap (λ (m : NodeRecord). m.values) (node_is es i n h) in
      let sum : prefix ≡ sum_by (value_count es) (take i (paths_of es)) = length-flat_map (ending_at es) (take i (paths_of es)) in
      let all : prefix + length own ≤ length (by_nodes es) = length-flat_map-take (ending_at es) (paths_of es) i [] inside in
      let k : ℕ = j - prefix in
      let at : prefix + k ≡ j = omega (arith, sum, first, low) in
      let next : prefix + (k + 1) ≡ j + 1 = omega (arith, at) in
      let here : get_or (by_nodes es) j no_entry ≡ get_or own k no_entry =
      ap (λ m. get_or (by_nodes es) m no_entry) (sym at) ∙ get_or-flat_map (ending_at es) (paths_of es) i k [] no_entry inside (omega (arith, at, sum, first, count, high)) in
      let there : get_or (by_nodes es) (j + 1) no_entry ≡ get_or own (k + 1) no_entry =
      ap (λ m. get_or (by_nodes es) m no_entry) (sym next) ∙ get_or-flat_map (ending_at es) (paths_of es) i (k + 1) [] no_entry inside (omega (arith, at, sum, first, count, high)) in
      let step : (get_or own k no_entry).order < (get_or own (k + 1) no_entry).order = own_steps p k no_entry (omega (arith, at, sum, first, count, high)) in
      let left : (get_or (draft_of es).values j v).order ≡ (get_or own k no_entry).order =
      ap (λ (w : ValueRecord). w.order) (value_is es j v (omega (arith, values_len es, at, sum, first, count, high, all))) ∙ ap (λ (e : Entry). e.order) here in
      let right : (get_or (draft_of es).values (j + 1) v).order ≡ (get_or own (k + 1) no_entry).order =
      ap (λ (w : ValueRecord). w.order) (value_is es (j + 1) v (omega (arith, values_len es, at, sum, first, count, high, all))) ∙ ap (λ (e : Entry). e.order) there in
      omega (arith, step, left, right)
