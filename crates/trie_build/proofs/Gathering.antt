-- The values of a trie's nodes, node by node, are its entries in the order in which an index has them.
use Rattle.std.proofs.Common.{◌≡◌, ℕ, zero, suc, ◌+◌, ◌-◌, ◌<◌, Bool, true, false, cond, List, [], ◌∷◌, ◌++◌, length, take, drop, map, filter, flat_map, get_or, refl, sym, ◌∙◌, ap, subst, arith, inl, inr, All}
use Rattle.std.proofs.lemmas.Bool.Decides.{leb_tells}
use Rattle.std.proofs.lemmas.Cmp.{nat_cmp_total, ranked, tied_itself}
use Rattle.std.proofs.lemmas.List.{get_or_default, map-append}
use Rattle.std.proofs.lemmas.List.FromFn.{fill_by_all, get_or-range_with_len, length-range_with_len}
use Rattle.std.proofs.lemmas.List.Sorted.{Contains-permutation, length_permutation}
use Rattle.std.specs.List.{range_with_len}
use Rattle.std.specs.Ordering.{MatchOrdering, is_eq, nat_cmp, ordering_reverse}
use Rattle.std.specs.declared.cmp.Ordering.{Ordering}
use Rattle.std.specs.declared.cmp.Ordering.TheVariants.{Less, Equal, Greater}
use Rattle.text_core.specs.declared.item.Item.{Item}
use Rattle.trie_nodes.specs.declared.entry.Entry.{Entry}
use Rattle.trie_build.specs.Content.{Content, IsTrie, all_values, entry_at, no_entry, value_of}
use Rattle.trie_build.specs.Held.{IsHeld, IsValueOf, order_of, own_numbers, pattern_of}
use Rattle.trie_build.proofs.Answering.{contains_of, number_within, rising_far, value_reported}
use Rattle.trie_nodes.specs.Tree.{node_at, nowhere, path}
use Rattle.trie_nodes.specs.Values.{Value, value_at, values_of}
use Rattle.trie_nodes.specs.declared.node.Node.{Node}
use Rattle.trie_build.specs.Distinct.{IsIn, Rises}
use Rattle.trie_build.proofs.TotalOrder.{IsOrder}
use Rattle.trie_build.specs.Order.{path_cmp}
use Rattle.trie_build.specs.Paths.{ending_at, paths_of, same_path}
use Rattle.trie_build.proofs.Distinguishing.{filter_in, get_in, in_filter, in_flat_map, in_get, in_range, one_list, range_in, rises_filter}
use Rattle.trie_build.proofs.Orders.{paths_order}
use Rattle.trie_build.proofs.Children.{tied}
use Rattle.trie_build.proofs.Parts.{length_part, map_numbered, map_twice, part_at, rises_by}

less_is : (m n : ℕ) → m < n → nat_cmp m n ≡ Less
less_is m n h = by (nat_cmp m n) refl (ranked m n (nat_cmp m n) refl) where
  by : (o : Ordering) → nat_cmp m n ≡ o → MatchOrdering o (m < n) (m ≡ n) (n < m) → nat_cmp m n ≡ Less
  by Less e r = e
  by Equal e r = absurd (omega arith)
  by Greater e r = absurd (omega arith)

same_is : (m n : ℕ) → nat_cmp m n ≡ Equal → m ≡ n
same_is m n h = by (nat_cmp m n) h (ranked m n (nat_cmp m n) refl) where
  by : (o : Ordering) → o ≡ Equal → MatchOrdering o (m < n) (m ≡ n) (n < m) → m ≡ n
  by Less e r = cc
  by Equal e r = r
  by Greater e r = cc

numbers_order : IsOrder nat_cmp
numbers_order = record {
  itself = tied_itself nat_cmp_total;
  same = same_is;
  reversed = λ x y e. nat_cmp_total.antisymm y x ∙ ap ordering_reverse e;
  trans = λ x y z e f. nat_cmp_total.trans x y z e f;
}

range_rises : (n : ℕ) → Rises nat_cmp (range_with_len 0 n)
range_rises n = rises_by nat_cmp 0 (range_with_len 0 n) (λ i j less k.
    let inside : j < n = omega (arith, length-range_with_len 0 n) in
    let low : get_or (range_with_len 0 n) i 0 ≡ 0 + i = get_or-range_with_len 0 n i 0 (omega arith) in
    let high : get_or (range_with_len 0 n) j 0 ≡ 0 + j = get_or-range_with_len 0 n j 0 inside in
    less_is (get_or (range_with_len 0 n) i 0) (get_or (range_with_len 0 n) j 0) (omega (arith, low, high)))

filter_mapped : {A B : Type 0} (f : B → Bool) (g : A → B) (xs : List A) → filter f (map g xs) ≡ map g (filter (λ x. f (g x)) xs)
filter_mapped f g [] = refl
filter_mapped f g (x ∷ xs) = by (f (g x)) (filter_mapped f g xs) where
  by : (v : Bool) → filter f (map g xs) ≡ map g (filter (λ y. f (g y)) xs) → cond v (g x ∷ filter f (map g xs)) (filter f (map g xs)) ≡ map g (cond v (x ∷ filter (λ y. f (g y)) xs) (filter (λ y. f (g y)) xs))
  by true on = ap (λ l. g x ∷ l) on
  by false on = on

map_flat : {A B C : Type 0} (g : B → C) (f : A → List B) (xs : List A) → map g (flat_map f xs) ≡ flat_map (λ x. map g (f x)) xs
map_flat g f [] = refl
map_flat g f (x ∷ xs) = map-append g (f x) (flat_map f xs) ∙ ap (λ l. map g (f x) ++ l) (map_flat g f xs)

flat_pair : {A B C : Type 0} (f : A → List C) (g : B → List C) (d : A) (e : B) (xs : List A) (ys : List B) → length xs ≡ length ys → ((k : ℕ) → k < length xs → f (get_or xs k d) ≡ g (get_or ys k e))
    → flat_map f xs ≡ flat_map g ys
flat_pair f g d e [] [] len same = refl
flat_pair f g d e [] (y ∷ ys) len same = absurd (omega arith)
flat_pair f g d e (x ∷ xs) [] len same = absurd (omega arith)
flat_pair f g d e (x ∷ xs) (y ∷ ys) len same =
    ap (λ l. l ++ flat_map f xs) (same 0 (omega arith)) ∙ ap (λ l. g y ++ l) (flat_pair f g d e xs ys (omega arith) (λ k h. same (suc k) (omega arith)))

in_take : {A : Type 0} (z : A) (n : ℕ) (xs : List A) → IsIn z (take n xs) → IsIn z xs
in_take z zero xs i = absurd i
in_take z (suc n) [] i = absurd i
in_take z (suc n) (x ∷ xs) (inl e) = inl e
in_take z (suc n) (x ∷ xs) (inr i) = inr (in_take z n xs i)

in_drop : {A : Type 0} (z : A) (n : ℕ) (xs : List A) → IsIn z (drop n xs) → IsIn z xs
in_drop z zero xs i = i
in_drop z (suc n) [] i = absurd i
in_drop z (suc n) (x ∷ xs) i = inr (in_drop z n xs i)

module _ (t : Content) (is : IsHeld t) where
  abbrev path_at : ℕ → List Item
  path_at i = get_or (paths_of t.entries) i []

  abbrev number_at : ℕ → ℕ
  number_at j = get_or t.numbers j 0

  numbers_up : (i j k : ℕ) → i < length t.nodes → IsValueOf (node_at t.nodes i) j → IsValueOf (node_at t.nodes i) k → j < k → number_at j < number_at k
  numbers_up i j k h v w less =
      let order : order_of t j < order_of t k = is.by_order i j k h v w less in
      let inside : j < length t.numbers = omega (arith, v.1, is.within i h) in
      elim (leb_tells (number_at k) (number_at j)) [
        | inl e ↦ absurd (elim (leb_tells (number_at j) (number_at k)) [
          | inl f ↦
              let same : number_at j ≡ number_at k = omega (arith, e.1, f.1) in
              let orders : order_of t j ≡ order_of t k = ap (λ n. (entry_at t.entries n).order) same in
              omega (arith, order, orders)
          | inr f ↦
              let reversed : order_of t k < order_of t j = rising_far t.entries is.rising (number_at k) (number_at j) f.1 (number_within t is j inside) in
              omega (arith, order, reversed)
        ])
        | inr e ↦ e.1
      ]

  module _ (i : ℕ) (inside : i < length t.nodes) where
    abbrev own : Node
    own = node_at t.nodes i

    abbrev part : List ℕ
    part = own_numbers t.numbers own

    abbrev ends : ℕ → Bool
    ends n = same_path (entry_at t.entries n).pattern (path_at i)

    abbrev wanted : List ℕ
    wanted = filter ends (range_with_len 0 (length t.entries))

    pub part_len : length part ≡ own.values
    part_len = length_part own.values own.first_value t.numbers (is.within i inside)

    place_in : (k : ℕ) → k < own.values → IsValueOf own (own.first_value + k)
    place_in k h = (omega arith, omega arith)

    part_rises : Rises nat_cmp part
    part_rises = rises_by nat_cmp 0 part (λ j k less h.
        let few : k < own.values = omega (arith, part_len) in
        let up = numbers_up i (own.first_value + j) (own.first_value + k) inside (place_in j (omega arith)) (place_in k few) (omega arith) in
        let low : get_or part j 0 ≡ number_at (own.first_value + j) = part_at own.values own.first_value j t.numbers 0 (omega arith) in
        let high : get_or part k 0 ≡ number_at (own.first_value + k) = part_at own.values own.first_value k t.numbers 0 few in
        less_is (get_or part j 0) (get_or part k 0) (omega (arith, low, high, up)))

    to : (z : ℕ) → IsIn z part → IsIn z wanted
    to z there =
        let at = in_get 0 z part there in
        let k : ℕ = at.0 in
        let few : k < own.values = omega (arith, at.1, part_len) in
        let j : ℕ = own.first_value + k in
        let here : j < length t.numbers = omega (arith, few, is.within i inside) in
        let is_present : z ≡ number_at j = at.2 ∙ part_at own.values own.first_value k t.numbers 0 few in
        let pattern : pattern_of t j ≡ path_at i = (is.own i j inside here).0 (place_in k few) ∙ is.paths i inside in
        let same : ends z ≡ true =
        ap ends is_present ∙ ap (λ q. same_path q (path_at i)) pattern ∙ ap is_eq (paths_order.itself (path_at i)) in
        let small : z < length t.entries = omega (arith, is_present, number_within t is j here) in
        filter_in ends z (range_with_len 0 (length t.entries)) (range_in z 0 (length t.entries) (omega arith) (omega (arith, small))) same

    fro : (z : ℕ) → IsIn z wanted → IsIn z part
    fro z there =
        let w = in_filter ends z (range_with_len 0 (length t.entries)) there in
        let small = in_range z 0 (length t.entries) w.0 in
        let pattern : (entry_at t.entries z).pattern ≡ path_at i = paths_order.same (entry_at t.entries z).pattern (path_at i) (tied (path_cmp (entry_at t.entries z).pattern (path_at i)) w.1) in
        let named_at = Contains-permutation (range_with_len 0 (length t.entries)) t.numbers z is.values (contains_of z (range_with_len 0 (length t.entries)) w.0) in
        let j : ℕ = named_at.0 in
        let number : number_at j ≡ z = get_or_default t.numbers j 0 z named_at.1 ∙ named_at.2 in
        let leads : pattern_of t j ≡ path t.nodes i = ap (λ n. (entry_at t.entries n).pattern) number ∙ pattern ∙ sym (is.paths i inside) in
        let span : IsValueOf own j = (is.own i j inside named_at.1).1 leads in
        let k : ℕ = j - own.first_value in
        let few : k < own.values = omega (arith, span.0, span.1) in
        let back : own.first_value + k ≡ j = omega (arith, span.0) in
        let is_present : get_or part k 0 ≡ z = part_at own.values own.first_value k t.numbers 0 few ∙ ap number_at back ∙ number in
        subst (λ y. IsIn y part) is_present (get_in 0 part k (omega (arith, part_len, few)))

    pub gathered : map (entry_at t.entries) part ≡ ending_at t.entries (path_at i)
    gathered =
        let ends_there : Entry → Bool = λ e. same_path e.pattern (path_at i) in
        let all : t.entries ≡ map (entry_at t.entries) (range_with_len 0 (length t.entries)) = fill_by_all (entry_at t.entries) t.entries (length t.entries) no_entry refl (λ n h. refl) in
        ap (map (entry_at t.entries)) (one_list nat_cmp numbers_order part wanted part_rises (rises_filter nat_cmp ends (range_with_len 0 (length t.entries)) (range_rises (length t.entries))) to fro)
        ∙ sym (filter_mapped ends_there (entry_at t.entries) (range_with_len 0 (length t.entries))) ∙ ap (filter ends_there) (sym all)

  pub all_gathered : map (entry_at t.entries) (flat_map (own_numbers t.numbers) t.nodes) ≡ flat_map (ending_at t.entries) (paths_of t.entries)
  all_gathered =
      map_flat (entry_at t.entries) (own_numbers t.numbers) t.nodes
      ∙ flat_pair (λ n. map (entry_at t.entries) (own_numbers t.numbers n)) (ending_at t.entries) nowhere [] t.nodes (paths_of t.entries) is.count (λ k h. gathered k h)

  pub all_small : All (λ n. n < length t.entries) (flat_map (own_numbers t.numbers) t.nodes)
  all_small k d h =
      let z : ℕ = get_or (flat_map (own_numbers t.numbers) t.nodes) k d in
      let w = in_flat_map (own_numbers t.numbers) z t.nodes (get_in d (flat_map (own_numbers t.numbers) t.nodes) k h) in
      let among : IsIn z t.numbers = in_drop z w.0.first_value t.numbers (in_take z w.0.values (drop w.0.first_value t.numbers) w.2) in
      let at = in_get 0 z t.numbers among in
      let same : z ≡ number_at at.0 = at.2 in
      omega (arith, same, number_within t is at.0 at.1)

  -- entry number k, as a value
  abbrev valued : ℕ → Value
  valued k = value_of (entry_at t.entries k)

  values_in_place : (i : ℕ) → i < length t.nodes → values_of t.nodes (all_values t) i ≡ map value_of (ending_at t.entries (path t.nodes i))
  values_in_place i h =
      let holder : Node = node_at t.nodes i in
      let taken : List ℕ = own_numbers t.numbers holder in
      let len : length taken ≡ holder.values = part_len i h in
      let within = is.within i h in
      ap (λ n. map (value_at (all_values t)) (range_with_len holder.first_value n)) (sym len)
      ∙ map_numbered (value_at (all_values t)) valued taken 0 holder.first_value (λ k less.
      let few : k < holder.values = omega (arith, less, len) in
      value_reported t is (holder.first_value + k) (omega (arith, few, within))
      ∙ ap valued (sym (part_at holder.values holder.first_value k t.numbers 0 few)))
      ∙ map_twice value_of (entry_at t.entries) taken
      ∙ ap (map value_of) (gathered i h)
      ∙ ap (λ (p : List Item). map value_of (ending_at t.entries p)) (sym (is.paths i h))

  -- what a trie holds by its numbers is what it has to hold
  pub is_trie : IsTrie t
  is_trie = record {
    rising = is.rising;
    shape = is.shape;
    count = is.count;
    paths = is.paths;
    values = length_permutation (range_with_len 0 (length t.entries)) t.numbers is.values ∙ length-range_with_len 0 (length t.entries);
    each = values_in_place;
  }
