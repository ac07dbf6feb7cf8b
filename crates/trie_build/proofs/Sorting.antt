-- Rows that were sorted.
use Rattle.std.proofs.Common.{◌≡◌, ℕ, zero, suc, ◌<◌, nat_eq, List, ◌∷◌, [], length, map, ◌++◌, ◌+◌, zero-add, get_or, false, true, refl, sym, ◌∙◌, ap, subst, arith}
use Rattle.std.proofs.lemmas.Cmp.{nat_cmp_total, nat_list_cmp_total, on_total, then_total}
use Rattle.std.proofs.Math.Logic.{⊎_elim}
use Rattle.std.specs.Cmp.Lexicographic.{slice_cmp}
use Rattle.trie_build.specs.Prefixes.{codes}
use Rattle.trie_build.proofs.Prefixing.{prefixes_agree, undetermined_agrees}
use Rattle.std.proofs.lemmas.Bool.{cases_order}
use Rattle.std.proofs.lemmas.List.FromFn.{get_or-range_with_len, length-range_with_len}
use Rattle.std.proofs.lemmas.Map.Keys.{IsDistinct-IsPermutation, IsDistinct-from_sorted, apart_from_distinct, sorted_from_strictly_increasing}
use Rattle.std.specs.Cmp.{nat_cmp_is, nat_eq_equiv, unsigned_ties}
use Rattle.std.specs.Ordering.{eq_by_cmp}
use Rattle.std.proofs.lemmas.List.{get_or-map, get_or_default, length-map, map-append}
use Rattle.std.proofs.lemmas.List.Elements.{All-push}
use Rattle.std.specs.List.{All, IsDistinct, range_with_len}
use Rattle.std.proofs.lemmas.List.Sorted.{ranks_by, sorted_far}
use Rattle.std.specs.List.Sorted.{IsPermutation, IsSortedBy, IsStrictlyIncreasing}
use Rattle.std.specs.Cmp.{IsTotalOrder}
use Rattle.std.specs.Ordering.{is_lt, nat_cmp, ordering_reverse, ordering_then}
use Rattle.std.specs.declared.cmp.Ordering.{Ordering}
use Rattle.std.specs.declared.cmp.Ordering.TheVariants.{Less, Equal, Greater}
use Rattle.trie_build.specs.Order.{pattern_cmp}
use Rattle.trie_build.proofs.Orders.{patterns_order, patterns_total, texts_order}
use Rattle.trie_nodes.specs.declared.entry.Entry.{Entry}
use Rattle.trie_nodes.proofs.Pieces.{range-append}
use Rattle.trie_build.specs.Content.{no_entry}
use Rattle.trie_build.specs.Rows.{IsSorted, Reports, SameRise, numbers, pattern_at, patterns, row_cmp, undetermined}
use Rattle.trie_build.specs.declared.rows.Row.{Row}

pub rows_total : IsTotalOrder row_cmp
rows_total = then_total (on_total (λ (r : Row). r.prefix) nat_list_cmp_total) (then_total (on_total (λ (r : Row). undetermined r.prefix r.items.now) patterns_total) (on_total (λ (r : Row). r.number) nat_cmp_total))

-- the row at a place
pub row_at : (rows : List Row) (x : ℕ) → x < length rows → (r : Row) × (pattern_at (patterns rows) x ≡ r.items.now) × ((d : Row) → get_or rows x d ≡ r)
row_at [] x h = absurd (omega arith)
row_at (r ∷ rows) zero h = (r, refl, λ d. refl)
row_at (r ∷ rows) (suc x) h = row_at rows x (omega arith)

-- rows are ordered as their patterns, if these differ
row_greater : (es : List Entry) (r s : Row) → Reports es r → Reports es s → pattern_cmp r.items.now s.items.now ≡ Greater → row_cmp r s ≡ Greater
row_greater es r s reported other greater =
    let first_labels : slice_cmp nat_cmp r.prefix s.prefix ≡ slice_cmp nat_cmp (codes 24 r.items.now) (codes 24 s.items.now) = ap (λ l. slice_cmp nat_cmp l s.prefix) reported.prefix ∙ ap (slice_cmp nat_cmp (codes 24 r.items.now)) other.prefix in
    let rests : Ordering = pattern_cmp (undetermined r.prefix r.items.now) (undetermined s.prefix s.items.now) in
    let following : codes 24 r.items.now ≡ codes 24 s.items.now → rests ≡ Greater = λ one.
    ap (λ l. pattern_cmp (undetermined l r.items.now) (undetermined s.prefix s.items.now)) reported.prefix ∙ ap (λ l. pattern_cmp (undetermined (codes 24 r.items.now) r.items.now) (undetermined l s.items.now)) other.prefix
    ∙ sym (undetermined_agrees r.items.now s.items.now one) ∙ greater in
    ⊎_elim (λ tie. ap (λ o. ordering_then o (ordering_then rests (nat_cmp r.number s.number))) (first_labels ∙ tie)
    ∙ ap (λ o. ordering_then o (nat_cmp r.number s.number)) (following (texts_order.same (codes 24 r.items.now) (codes 24 s.items.now) tie)))
    (λ is. ap (λ o. ordering_then o (ordering_then rests (nat_cmp r.number s.number))) (first_labels ∙ is ∙ greater)) (prefixes_agree 24 r.items.now s.items.now)

pub patterns_rise : (es : List Entry) (rows : List Row) → All (Reports es) rows → IsSortedBy (λ r s. is_lt (row_cmp r s)) rows → IsSorted (patterns rows)
patterns_rise es rows reports up x y h k greater =
    let len : length (patterns rows) ≡ length rows = simp length-map in
    let inside : y < length rows = omega (arith, len) in
    let r = row_at rows x (omega arith) in
    let s = row_at rows y inside in
    let above : row_cmp r.0 s.0 ≡ Greater =
    row_greater es r.0 s.0 (subst (Reports es) (r.2 r.0) (reports x r.0 (omega arith))) (subst (Reports es) (s.2 s.0) (reports y s.0 inside))
    (ap (λ p. pattern_cmp p s.0.items.now) (sym r.1) ∙ ap (pattern_cmp (pattern_at (patterns rows) x)) (sym s.1) ∙ greater) in
    let reversed : row_cmp s.0 r.0 ≡ Less = rows_total.antisymm s.0 r.0 ∙ ap ordering_reverse above in
    let not : is_lt (row_cmp (get_or rows y r.0) (get_or rows x r.0)) ≡ false =
    sorted_far (λ a b. is_lt (row_cmp a b)) (ranks_by rows_total (λ (z : Row). z)) rows up x y r.0 (omega arith) inside in
    let yes : is_lt (row_cmp (get_or rows y r.0) (get_or rows x r.0)) ≡ true = ap is_lt (ap (λ z. row_cmp z (get_or rows x r.0)) (s.2 r.0) ∙ ap (row_cmp s.0) (r.2 r.0) ∙ reversed) in
    cc

range_up : (n : ℕ) → IsStrictlyIncreasing (range_with_len 0 n)
range_up n k h =
    let len : length (range_with_len 0 n) ≡ n = length-range_with_len 0 n in
    let low : get_or (range_with_len 0 n) k 0 ≡ k = get_or-range_with_len 0 n k 0 (omega (arith, len)) ∙ zero-add k in
    let high : get_or (range_with_len 0 n) (k + 1) 0 ≡ k + 1 = get_or-range_with_len 0 n (k + 1) 0 (omega (arith, len)) ∙ zero-add (k + 1) in
    omega (arith, low, high)

-- numbers that were in a range are there once
apart : (n : ℕ) (xs : List ℕ) → IsPermutation (range_with_len 0 n) xs → (i j : ℕ) → i < j → j < length xs → get_or xs i 0 ≡ get_or xs j 0 → ⊥
apart n xs p i j h k e =
    let once : IsDistinct (eq_by_cmp nat_cmp) xs =
    IsDistinct-IsPermutation (eq_by_cmp nat_cmp) (λ x y. sym (unsigned_ties x y) ∙ nat_eq_equiv.symm x y ∙ unsigned_ties y x) (range_with_len 0 n) xs p
    (IsDistinct-from_sorted nat_cmp (range_with_len 0 n) (sorted_from_strictly_increasing (range_with_len 0 n) (range_up n))) in
    let other : eq_by_cmp nat_cmp (get_or xs i 0) (get_or xs j 0) ≡ false = apart_from_distinct (eq_by_cmp nat_cmp) xs i j 0 once h k in
    let tie : eq_by_cmp nat_cmp (get_or xs i 0) (get_or xs j 0) ≡ true = sym (unsigned_ties (get_or xs i 0) (get_or xs j 0)) ∙ ap (λ m. nat_eq m (get_or xs j 0)) e ∙ nat_eq_equiv.refl (get_or xs j 0) in
    cc

pub same_rise : (es : List Entry) (rows : List Row) → All (Reports es) rows → IsSortedBy (λ r s. is_lt (row_cmp r s)) rows → (n : ℕ) → IsPermutation (range_with_len 0 n) (numbers rows) → SameRise rows
same_rise es rows reports up n p x y h k one =
    let r = row_at rows x (omega arith) in
    let s = row_at rows y k in
    let reported : Reports es r.0 = subst (Reports es) (r.2 r.0) (reports x r.0 (omega arith)) in
    let other : Reports es s.0 = subst (Reports es) (s.2 s.0) (reports y s.0 k) in
    let items : s.0.items.now ≡ r.0.items.now = sym s.1 ∙ sym one ∙ r.1 in
    let first_labels : slice_cmp nat_cmp s.0.prefix r.0.prefix ≡ Equal =
    ap (λ l. slice_cmp nat_cmp l r.0.prefix) (other.prefix ∙ ap (codes 24) items ∙ sym reported.prefix) ∙ texts_order.itself r.0.prefix in
    let one_prefix : s.0.prefix ≡ r.0.prefix = other.prefix ∙ ap (codes 24) items ∙ sym reported.prefix in
    let rests : Ordering = pattern_cmp (undetermined s.0.prefix s.0.items.now) (undetermined r.0.prefix r.0.items.now) in
    let patterns_tie : rests ≡ Equal =
    ap (λ l. pattern_cmp (undetermined l s.0.items.now) (undetermined r.0.prefix r.0.items.now)) one_prefix ∙ ap (λ q. pattern_cmp (undetermined r.0.prefix q) (undetermined r.0.prefix r.0.items.now)) items
    ∙ patterns_order.itself (undetermined r.0.prefix r.0.items.now) in
    let by_number : row_cmp s.0 r.0 ≡ nat_cmp s.0.number r.0.number =
    ap (λ o. ordering_then o (ordering_then rests (nat_cmp s.0.number r.0.number))) first_labels
    ∙ ap (λ o. ordering_then o (nat_cmp s.0.number r.0.number)) patterns_tie in
    let not : is_lt (row_cmp (get_or rows y r.0) (get_or rows x r.0)) ≡ false =
    sorted_far (λ a b. is_lt (row_cmp a b)) (ranks_by rows_total (λ (z : Row). z)) rows up x y r.0 (omega arith) k in
    let not_less : is_lt (nat_cmp s.0.number r.0.number) ≡ false =
    ap is_lt (sym by_number ∙ sym (ap (λ z. row_cmp z r.0) (s.2 r.0)) ∙ sym (ap (row_cmp (get_or rows y r.0)) (r.2 r.0))) ∙ not in
    let low : get_or (numbers rows) x 0 ≡ r.0.number = get_or-map (λ (z : Row). z.number) rows x r.0 0 (omega arith) ∙ ap (λ (z : Row). z.number) (r.2 r.0) in
    let high : get_or (numbers rows) y 0 ≡ s.0.number = get_or-map (λ (z : Row). z.number) rows y s.0 0 k ∙ ap (λ (z : Row). z.number) (s.2 s.0) in
    let len : length (numbers rows) ≡ length rows = length-map rows (λ (z : Row). z.number) in
    ⊎_elim (λ tie. absurd (apart n (numbers rows) p x y h (omega (arith, len)) (low ∙ tie ∙ sym high)))
    (λ rest. ⊎_elim (λ less. omega (arith, low, high, less)) (λ more. absurd (let less : nat_cmp s.0.number r.0.number ≡ Less = sym (nat_cmp_is s.0.number r.0.number Less more) in cc)) rest)
    (cases_order r.0.number s.0.number)

-- one row more, of the next entry
module _ (es : List Entry) (rows more : List Row) (i : ℕ) (e : Entry) (r : Row) (pushed : more ≡ rows ++ r ∷ []) (number : r.number ≡ i) where
  pub numbers_more : map (λ (s : Row). s.number) rows ≡ range_with_len 0 i → map (λ (s : Row). s.number) more ≡ range_with_len 0 (i + 1)
  numbers_more so_far =
      ap (map (λ (s : Row). s.number)) pushed ∙ map-append (λ (s : Row). s.number) rows (r ∷ [])
      ∙ ap (λ l. l ++ r.number ∷ []) so_far ∙ ap (λ n. range_with_len 0 i ++ n ∷ []) (number ∙ sym (zero-add i)) ∙ range-append 0 i 1

  pub rows_more : i < length es → e ≡ get_or es i e → r.items.now ≡ e.pattern → r.prefix ≡ codes 24 r.items.now → All (Reports es) rows → All (Reports es) more
  rows_more within is items prefix so_far =
      let own : Reports es r = record {
        within = omega (arith, number, within);
        items = items ∙ ap (λ (x : Entry). x.pattern) (is ∙ get_or_default es i e no_entry within ∙ ap (λ k. get_or es k no_entry) (sym number));
        prefix = prefix;
      } in
      subst (All (Reports es)) (sym pushed) (All-push (Reports es) rows r so_far own)
