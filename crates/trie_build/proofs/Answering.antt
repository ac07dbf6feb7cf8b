-- What the nodes of a trie list answers as its entries do.
use Rattle.std.proofs.Common.{◌≡◌, ℕ, zero, suc, ◌+◌, ◌-◌, ◌<◌, ◌≤◌, List, ◌∷◌, [], ◌++◌, length, take, drop, map, get_or, refl, sym, ◌∙◌, ap, subst, arith, inl, inr, add-one}
use Rattle.std.proofs.Math.Seq.{take-length}
use Rattle.std.proofs.lemmas.Bool.Decides.{leb_tells}
use Rattle.std.proofs.lemmas.List.{get_or-drop, get_or-map, get_or-take, get_or_default, length-drop, length-take, take-append-drop}
use Rattle.std.proofs.Math.Seq.{drop-cons}
use Rattle.std.proofs.lemmas.List.Elements.{All-append, All-cons, All-contains, All-weaker}
use Rattle.std.proofs.lemmas.List.Sorted.{Contains-permutation, IsPermutation-sym}
use Rattle.std.specs.List.{All, Contains, range_with_len}
use Rattle.text_core.specs.declared.item.Item.{Item}
use Rattle.trie_nodes.specs.Orders.{Rising}
use Rattle.trie_nodes.specs.Query.{winners}
use Rattle.trie_nodes.specs.Winning.{Applies, Counts, IsAnswer}
use Rattle.trie_nodes.specs.declared.entry.Entry.{Entry}
use Rattle.trie_nodes.proofs.Counting.{winners_answer}
use Rattle.trie_nodes.proofs.Unique.{only_winners}
use Rattle.trie_nodes.specs.Tree.{node_at, numbers, path}
use Rattle.trie_nodes.specs.Values.{entry, listed, value_at, values_of}
use Rattle.trie_build.specs.Distinct.{IsIn}
use Rattle.trie_build.specs.Paths.{paths_of, patterns_of}
use Rattle.trie_build.proofs.Distinguishing.{flat_map_in, get_in, in_flat_map, in_get, in_map, in_range, map_in, range_in}
use Rattle.trie_build.proofs.Paths.{prefix_is_path}
use Rattle.trie_build.specs.Content.{Content, all_values, entry_at, no_entry, value_of}
use Rattle.trie_build.specs.Held.{IsHeld, IsValueOf, pattern_of}

pub contains_of : {A : Type 0} (x : A) (xs : List A) → IsIn x xs → Contains xs x
contains_of x xs i = let w = in_get x x xs i in (w.0, w.1, sym w.2)

pub in_of : {A : Type 0} (x : A) (xs : List A) → Contains xs x → IsIn x xs
in_of x xs c = subst (λ z. IsIn z xs) c.2 (get_in x xs c.0 c.1)

-- orders that rise do so over any distance
pub rising_far : (ys : List Entry) → Rising ys → (i j : ℕ) → i < j → j < length ys → (entry_at ys i).order < (entry_at ys j).order
rising_far ys rising i zero h k = absurd (omega arith)
rising_far ys rising i (suc j) h k =
    let step : (entry_at ys j).order < (entry_at ys (suc j)).order = subst (λ n. (entry_at ys j).order < (entry_at ys n).order) (add-one j) (rising.orders j no_entry (omega arith)) in
    elim (leb_tells j i) [
      | inl t ↦ let e : j ≡ i = omega (arith, t.1) in subst (λ n. (entry_at ys n).order < (entry_at ys (suc j)).order) e step
      | inr t ↦ omega (arith, rising_far ys rising i j t.1 (omega arith), step)
    ]

-- of entries whose orders rise, with the same members as others
module _ (xs ys : List Entry) (rising : Rising ys) (to : (e : Entry) → IsIn e xs → IsIn e ys) (fro : (e : Entry) → IsIn e ys → IsIn e xs) (m : List ℕ) where
  module _ (e : Entry) (counts : Counts xs m e) where
    abbrev NotAbove : Entry → Type 0
    NotAbove o = Applies m e.key o → o.order ≤ e.order

    highest : (o : Entry) → IsIn o xs → NotAbove o
    highest o i =
        let following : All NotAbove counts.after = All-weaker (λ (p : Entry). Applies m e.key p → p.order < e.order) NotAbove (λ p h a. omega (arith, h a)) counts.after counts.later in
        let all : All NotAbove (counts.before ++ e ∷ counts.after) = All-append NotAbove counts.before (e ∷ counts.after) counts.earlier (All-cons NotAbove e counts.after (λ a. omega arith) following) in
        All-contains NotAbove xs o (subst (All NotAbove) (sym counts.listed) all) (contains_of o xs i)

    itself : IsIn e xs
    itself = subst (IsIn e) (sym counts.listed) (seam counts.before) where
      seam : (prefix : List Entry) → IsIn e (prefix ++ e ∷ counts.after)
      seam [] = inl refl
      seam (x ∷ prefix) = inr (seam prefix)

    abbrev place : (n : ℕ) × (n < length ys) × (e ≡ entry_at ys n)
    place = in_get no_entry e ys (to e itself)

    split : ys ≡ take place.0 ys ++ e ∷ drop (suc place.0) ys
    split = sym (take-append-drop place.0 ys) ∙ ap (λ l. take place.0 ys ++ l) (drop-cons ys place.0 no_entry place.1 ∙ ap (λ x. x ∷ drop (suc place.0) ys) (sym place.2))

    pub counts_too : Counts ys m e
    counts_too = record {
      before = take place.0 ys;
      after = drop (suc place.0) ys;
      listed = split;
      applies = counts.applies;
      earlier = λ k d h a.
          let inside : k < place.0 = let len : length (take place.0 ys) ≡ place.0 = simp length-take (omega (arith, place.1)) in omega (arith, len) in
          let same : get_or (take place.0 ys) k d ≡ get_or ys k d = get_or-take place.0 ys k d inside in
          highest (get_or (take place.0 ys) k d) (fro (get_or (take place.0 ys) k d) (subst (λ o. IsIn o ys) (sym same) (get_in d ys k (omega (arith, inside, place.1))))) a;
      later = λ k d h a.
          let n : ℕ = suc place.0 + k in
          let inside : n < length ys = let len : length (drop (suc place.0) ys) ≡ length ys - suc place.0 = length-drop (suc place.0) ys in omega (arith, len) in
          let same : get_or (drop (suc place.0) ys) k d ≡ get_or ys n d = get_or-drop (suc place.0) ys k d in
          let there : get_or (drop (suc place.0) ys) k d ≡ entry_at ys n = same ∙ get_or_default ys n d no_entry inside in
          let low : (get_or (drop (suc place.0) ys) k d).order ≤ e.order =
          highest (get_or (drop (suc place.0) ys) k d) (fro (get_or (drop (suc place.0) ys) k d) (subst (λ o. IsIn o ys) (sym same) (get_in d ys n inside))) a in
          let high : (entry_at ys place.0).order < (entry_at ys n).order = rising_far ys rising place.0 n (omega arith) inside in
          let own : e.order ≡ (entry_at ys place.0).order = ap (λ (x : Entry). x.order) place.2 in
          let other : (get_or (drop (suc place.0) ys) k d).order ≡ (entry_at ys n).order = ap (λ (x : Entry). x.order) there in
          absurd (omega (arith, low, high, own, other));
    }

  same_answer : (won : List Entry) → IsAnswer xs m won → IsAnswer ys m won
  same_answer won answer = record {
    rises = answer.rises;
    counts = All-weaker (Counts xs m) (Counts ys m) (λ e c. counts_too e c) won answer.counts;
    whole = λ e c applies. answer.whole e (contains_of e xs (fro e (in_of e ys c))) applies;
  }

  pub same_winners : winners xs m ≡ winners ys m
  same_winners = only_winners ys m (winners xs m) (same_answer (winners xs m) (winners_answer xs m))

module _ (t : Content) (is : IsHeld t) where
  abbrev all_listed : List Entry
  all_listed = listed t.nodes (all_values t)

  -- the entry that a value is
  abbrev reported : ℕ → Entry
  reported j = entry_at t.entries (get_or t.numbers j 0)

  pub value_reported : (j : ℕ) → j < length t.numbers → value_at (all_values t) j ≡ value_of (reported j)
  value_reported j h = get_or-map (λ i. value_of (entry_at t.entries i)) t.numbers j 0 (value_at [] 0) h

  pub number_within : (j : ℕ) → j < length t.numbers → get_or t.numbers j 0 < length t.entries
  number_within j h =
      let n : ℕ = get_or t.numbers j 0 in
      let there : Contains (range_with_len 0 (length t.entries)) n =
      Contains-permutation t.numbers (range_with_len 0 (length t.entries)) n (IsPermutation-sym (range_with_len 0 (length t.entries)) t.numbers is.values) (contains_of n t.numbers (get_in 0 t.numbers j h)) in
      let w = in_range n 0 (length t.entries) (in_of n (range_with_len 0 (length t.entries)) there) in
      omega (arith, w.1)

  to : (e : Entry) → IsIn e all_listed → IsIn e t.entries
  to e i =
      let a = in_flat_map (λ i. map (entry (path t.nodes i)) (values_of t.nodes (all_values t) i)) e (numbers t.nodes) i in
      let node : ℕ = a.0 in
      let r = in_range node 0 (length t.nodes) a.1 in
      let here : node < length t.nodes = omega (arith, r.1) in
      let b = in_map (entry (path t.nodes node)) e (values_of t.nodes (all_values t) node) a.2 in
      let c = in_map (value_at (all_values t)) b.0 (range_with_len (node_at t.nodes node).first_value (node_at t.nodes node).values) b.1 in
      let j : ℕ = c.0 in
      let span = in_range j (node_at t.nodes node).first_value (node_at t.nodes node).values c.1 in
      let inside : j < length t.numbers = omega (arith, span.1, is.within node here) in
      let pattern : pattern_of t j ≡ path t.nodes node = (is.own node j here inside).0 (span.0, span.1) in
      let same : e ≡ reported j =
      b.2 ∙ ap (entry (path t.nodes node)) (c.2 ∙ value_reported j inside) ∙ ap (λ p. entry p (value_of (reported j))) (sym pattern) in
      subst (λ x. IsIn x t.entries) (sym same) (get_in no_entry t.entries (get_or t.numbers j 0) (number_within j inside))

  fro : (e : Entry) → IsIn e t.entries → IsIn e all_listed
  fro e i =
      let w = in_get no_entry e t.entries i in
      let n : ℕ = w.0 in
      let named = Contains-permutation (range_with_len 0 (length t.entries)) t.numbers n is.values (contains_of n (range_with_len 0 (length t.entries)) (range_in n 0 (length t.entries) (omega arith) (omega (arith, w.1)))) in
      let j : ℕ = named.0 in
      let number : get_or t.numbers j 0 ≡ n = get_or_default t.numbers j 0 n named.1 ∙ named.2 in
      let own : reported j ≡ e = ap (entry_at t.entries) number ∙ sym w.2 in
      let p : List Item = e.pattern in
      let prefix : IsIn p (paths_of t.entries) =
      subst (λ q. IsIn q (paths_of t.entries)) (take-length p) (prefix_is_path (patterns_of t.entries) p (length p) (map_in (λ (x : Entry). x.pattern) e t.entries i) (omega arith)) in
      let at = in_get [] p (paths_of t.entries) prefix in
      let node : ℕ = at.0 in
      let here : node < length t.nodes = omega (arith, at.1, is.count) in
      let path_is : p ≡ path t.nodes node = at.2 ∙ sym (is.paths node here) in
      let pattern : pattern_of t j ≡ path t.nodes node = ap (λ (x : Entry). x.pattern) own ∙ path_is in
      let span : IsValueOf (node_at t.nodes node) j = (is.own node j here named.1).1 pattern in
      let same : entry (path t.nodes node) (value_at (all_values t) j) ≡ e =
      ap (entry (path t.nodes node)) (value_reported j named.1 ∙ ap value_of own) ∙ ap (λ q. entry q (value_of e)) (sym path_is) in
      let value : IsIn (value_at (all_values t) j) (values_of t.nodes (all_values t) node) =
      map_in (value_at (all_values t)) j (range_with_len (node_at t.nodes node).first_value (node_at t.nodes node).values) (range_in j (node_at t.nodes node).first_value (node_at t.nodes node).values span.0 span.1) in
      subst (λ x. IsIn x all_listed) same
      (flat_map_in (λ i. map (entry (path t.nodes i)) (values_of t.nodes (all_values t) i)) (entry (path t.nodes node) (value_at (all_values t) j)) node (numbers t.nodes)
      (range_in node 0 (length t.nodes) (omega arith) (omega (arith, here))) (map_in (entry (path t.nodes node)) (value_at (all_values t) j) (values_of t.nodes (all_values t) node) value))

  -- what counts among the listed entries is what counts among the entries
  pub listed_answers : (m : List ℕ) → winners all_listed m ≡ winners t.entries m
  listed_answers m = same_winners all_listed t.entries is.rising to fro m
