-- The winners are the entries that count.
use Rattle.std.proofs.Common.{◌≡◌, ◌≢◌, ℕ, zero, suc, ◌<◌, ◌≤◌, Bool, true, false, cond, nat_lt, ltb-true, ltb-false, List, ◌∷◌, [], ◌++◌, length, map, fold, get_or, refl, sym, ◌∙◌, ap, arith, subst, append_assoc, append-nil, All}
use Rattle.std.proofs.Math.Logic.{⊎_elim, ◌⊎◌, inl, inr}
use Rattle.std.specs.List.{Contains}
use Rattle.std.specs.declared.cmp.Ordering.{Ordering}
use Rattle.std.specs.declared.cmp.Ordering.TheVariants.{Less, Equal, Greater}
use Rattle.std.proofs.lemmas.List.Elements.{All-nil, All-cons, All-tail, All-append, All-weaker, All-push, All-same, All-map, All-contains, All-contains_itself, Contains-push_cases}
use Rattle.text_core.specs.Fits.{fits}
use Rattle.trie_nodes.specs.declared.entry.Entry.{Entry}
use Rattle.trie_nodes.specs.Query.{fitting, put, winner, winners}
use Rattle.trie_nodes.specs.Places.{placed}
use Rattle.text_bytes.specs.Insertion.{text_order}
use Rattle.trie_nodes.specs.Winning.{Applies, Counts, IsAnswer, KeysRise}
use Rattle.trie_nodes.proofs.Keys.{before_trans, reversed, itself, same_key}
use Rattle.trie_nodes.proofs.Placing.{put_rises, rises_head, rises_tail}

-- a key that comes before another is not that one
pub differs : (a b : List ℕ) → text_order a b ≡ Less → a ≢ b
differs a b h same = let tie : text_order a b ≡ Equal = ap (λ k. text_order a k) (sym same) ∙ itself a in cc

module _ (m : List ℕ) where
  -- what counts still does with one entry more, unless that one wins
  counts_still : (es : List Entry) (w e : Entry) → Counts es m w → (Applies m w.key e → e.order < w.order) → Counts (es ++ e ∷ []) m w
  counts_still es w e c below = record {
    before = c.before;
    after = c.after ++ e ∷ [];
    listed = ap (λ (l : List Entry). l ++ e ∷ []) c.listed ∙ append_assoc c.before (w ∷ c.after) (e ∷ []);
    applies = c.applies;
    earlier = c.earlier;
    later = All-push (λ (other : Entry). Applies m w.key other → other.order < w.order) c.after e c.later below;
  }

  -- the entry that is listed last counts if none has a greater order
  counts_last : (es : List Entry) (e : Entry) → fits e.pattern m ≡ true → All (λ (other : Entry). Applies m e.key other → other.order ≤ e.order) es → Counts (es ++ e ∷ []) m e
  counts_last es e fit below = record {
    before = es;
    after = [];
    listed = refl;
    applies = fit;
    earlier = below;
    later = All-nil (λ (other : Entry). Applies m e.key other → other.order < e.order);
  }

  -- no entry of its key has a greater order than one that counts
  none_above : (es : List Entry) (w : Entry) → Counts es m w → All (λ (other : Entry). Applies m w.key other → other.order ≤ w.order) es
  none_above es w c =
      let below : Entry → Type 0 = λ (other : Entry). Applies m w.key other → other.order ≤ w.order in
      All-same below es (c.before ++ w ∷ c.after) c.listed
      (All-append below c.before (w ∷ c.after) c.earlier
      (All-cons below w c.after (λ _. omega arith)
      (All-weaker (λ (other : Entry). Applies m w.key other → other.order < w.order) below (λ x h a. let less : x.order < w.order = h a in omega arith) c.after c.later)))

  -- those with another key
  others_still : (es : List Entry) (e : Entry) (xs : List Entry) → All (Counts es m) xs → All (λ (x : Entry). x.key ≢ e.key) xs → All (Counts (es ++ e ∷ []) m) xs
  others_still es e xs counts apart k d within =
      counts_still es (get_or xs k d) e (counts k d within) (λ a. absurd (apart k d within (sym a.has_key)))

  -- the one that wins of two with one key counts
  winner_counts : (es : List Entry) (x e : Entry) → fits e.pattern m ≡ true → x.key ≡ e.key → Counts es m x → (b : Bool) → nat_lt e.order x.order ≡ b → Counts (es ++ e ∷ []) m (cond b x e)
  winner_counts es x e fit same c true less = counts_still es x e c (λ _. ltb-true e.order x.order less)
  winner_counts es x e fit same c false less =
      let up : x.order ≤ e.order = ltb-false e.order x.order less in
      counts_last es e fit
      (All-weaker (λ (other : Entry). Applies m x.key other → other.order ≤ x.order) (λ (other : Entry). Applies m e.key other → other.order ≤ e.order)
      (λ o h a. let under : o.order ≤ x.order = h (record { applies = a.applies; has_key = a.has_key ∙ sym same }) in omega arith) es (none_above es x c))

  -- All that count do so with the entry put among them. It is new if no other has its key.
  put_counts : (es : List Entry) (e : Entry) (xs : List Entry) → fits e.pattern m ≡ true → KeysRise xs → All (Counts es m) xs
      → (All (λ (x : Entry). x.key ≢ e.key) xs → All (λ (other : Entry). Applies m e.key other → ⊥) es) → All (Counts (es ++ e ∷ []) m) (put xs e)
  put_counts es e [] fit rises counts fresh =
      All-cons (Counts (es ++ e ∷ []) m) e []
      (counts_last es e fit (All-weaker (λ (other : Entry). Applies m e.key other → ⊥) (λ (other : Entry). Applies m e.key other → other.order ≤ e.order) (λ o none a. absurd (none a)) es
      (fresh (All-nil (λ (x : Entry). x.key ≢ e.key)))))
      (All-nil (Counts (es ++ e ∷ []) m))
  put_counts es e (x ∷ xs) fit rises counts fresh =
      by (λ (f : All (λ (y : Entry). y.key ≢ e.key) xs → All (λ (other : Entry). Applies m e.key other → ⊥) es). put_counts es e xs fit (rises_tail x xs rises) (All-tail (Counts es m) x xs counts) f)
      (text_order x.key e.key) refl where
        own : Counts es m x
        own = counts zero x (omega arith)

        others : All (Counts es m) xs
        others = All-tail (Counts es m) x xs counts

        by : ((All (λ (y : Entry). y.key ≢ e.key) xs → All (λ (other : Entry). Applies m e.key other → ⊥) es) → All (Counts (es ++ e ∷ []) m) (put xs e))
            → (o : Ordering) → text_order x.key e.key ≡ o → All (Counts (es ++ e ∷ []) m) (placed o e x xs (put xs e))
        by rest Less h =
            All-cons (Counts (es ++ e ∷ []) m) x (put xs e) (counts_still es x e own (λ a. absurd (differs x.key e.key h (sym a.has_key))))
            (rest (λ apart. fresh (All-cons (λ (y : Entry). y.key ≢ e.key) x xs (differs x.key e.key h) apart)))
        by rest Equal h =
            let same : x.key ≡ e.key = same_key x.key e.key h in
            All-cons (Counts (es ++ e ∷ []) m) (winner x e) xs (winner_counts es x e fit same own (nat_lt e.order x.order) refl)
            (others_still es e xs others (λ k d within is. differs x.key (get_or xs k d).key (rises_head x xs rises k d within) (same ∙ sym is)))
        by rest Greater h =
            let back : text_order e.key x.key ≡ Less = reversed x.key e.key h in
            let apart : All (λ (y : Entry). y.key ≢ e.key) (x ∷ xs) =
            All-cons (λ (y : Entry). y.key ≢ e.key) x xs (λ is. differs e.key x.key back (sym is))
            (λ k d within is. differs e.key (get_or xs k d).key (before_trans e.key x.key (get_or xs k d).key back (rises_head x xs rises k d within)) (sym is)) in
            All-cons (Counts (es ++ e ∷ []) m) e (x ∷ xs)
            (counts_last es e fit (All-weaker (λ (other : Entry). Applies m e.key other → ⊥) (λ (other : Entry). Applies m e.key other → other.order ≤ e.order) (λ o none a. absurd (none a)) es (fresh apart)))
            (others_still es e (x ∷ xs) counts apart)

module _ {A : Type 0} where
  -- an element after another
  pub following : (x : A) (xs : List A) (y : A) → Contains xs y → Contains (x ∷ xs) y
  following x xs y c = (suc c.0, omega (arith, c.1), c.2)

  -- an element is the first, or after it
  pub first_or : (x : A) (xs : List A) (y : A) → Contains (x ∷ xs) y → (x ≡ y) ⊎ Contains xs y
  first_or x xs y c = at c.0 c.1 c.2 where
    at : (k : ℕ) → k < length (x ∷ xs) → get_or (x ∷ xs) k y ≡ y → (x ≡ y) ⊎ Contains xs y
    at zero within is = inl is
    at (suc k) within is = inr (k, omega arith, is)

abbrev keys : List Entry → List (List ℕ)
keys es = map (λ (e : Entry). e.key) es

-- the winner has the key of both
winner_key : (x e : Entry) → x.key ≡ e.key → (winner x e).key ≡ e.key
winner_key x e same = elim (nat_lt e.order x.order) as (λ b. (cond b x e).key ≡ e.key) [ true ↦ same | false ↦ refl ]

-- what is put is there by its key
put_has : (xs : List Entry) (e : Entry) → Contains (keys (put xs e)) e.key
put_has [] e = (zero, omega arith, refl)
put_has (x ∷ xs) e = by (put_has xs e) (text_order x.key e.key) refl where
  by : Contains (keys (put xs e)) e.key → (o : Ordering) → text_order x.key e.key ≡ o → Contains (keys (placed o e x xs (put xs e))) e.key
  by rest Less h = following x.key (keys (put xs e)) e.key rest
  by rest Equal h = (zero, omega arith, winner_key x e (same_key x.key e.key h))
  by rest Greater h = (zero, omega arith, refl)

-- and the keys that were there still are
put_keeps : (xs : List Entry) (e : Entry) (key : List ℕ) → Contains (keys xs) key → Contains (keys (put xs e)) key
put_keeps [] e key c = absurd (omega (arith, c.1))
put_keeps (x ∷ xs) e key c = by (put_keeps xs e key) (text_order x.key e.key) refl where
  by : (Contains (keys xs) key → Contains (keys (put xs e)) key) → (o : Ordering) → text_order x.key e.key ≡ o → Contains (keys (placed o e x xs (put xs e))) key
  by rest Less h = ⊎_elim (λ is. (zero, omega arith, is)) (λ later. following x.key (keys (put xs e)) key (rest later)) (first_or x.key (keys xs) key c)
  by rest Equal h =
      let same : x.key ≡ e.key = same_key x.key e.key h in
      ⊎_elim (λ is. (zero, omega arith, winner_key x e same ∙ sym same ∙ is)) (λ later. following (winner x e).key (keys xs) key later) (first_or x.key (keys xs) key c)
  by rest Greater h = following e.key (keys (x ∷ xs)) key c

-- if no winner has the key, no entry that fits has it
fresh : (es : List Entry) (m : List ℕ) (xs : List Entry) (e : Entry) → IsAnswer es m xs → All (λ (x : Entry). x.key ≢ e.key) xs → All (λ (other : Entry). Applies m e.key other → ⊥) es
fresh es m xs e answer apart =
    All-weaker (Contains es) (λ (other : Entry). Applies m e.key other → ⊥)
    (λ o listed a. All-contains (λ (k : List ℕ). k ≢ e.key) (keys xs) o.key (All-map (λ (k : List ℕ). k ≢ e.key) (λ (x : Entry). x.key) xs apart) (answer.whole o listed a.applies) a.has_key)
    es (All-contains_itself es)

-- one entry more that fits
answer_more : (es : List Entry) (m : List ℕ) (xs : List Entry) (e : Entry) → fits e.pattern m ≡ true → IsAnswer es m xs → IsAnswer (es ++ e ∷ []) m (put xs e)
answer_more es m xs e fit answer = record {
  rises = put_rises xs e answer.rises;
  counts = put_counts m es e xs fit answer.rises answer.counts (fresh es m xs e answer);
  whole = λ o listed fits_too. ⊎_elim
      (λ before. put_keeps xs e o.key (answer.whole o before fits_too))
      (λ is. subst (λ (y : Entry). Contains (keys (put xs e)) y.key) is (put_has xs e))
      (Contains-push_cases es e o listed);
}

-- one entry more that does not
answer_same : (es : List Entry) (m : List ℕ) (xs : List Entry) (e : Entry) → fits e.pattern m ≡ false → IsAnswer es m xs → IsAnswer (es ++ e ∷ []) m xs
answer_same es m xs e unfit answer = record {
  rises = answer.rises;
  counts = λ k d within. counts_still m es (get_or xs k d) e (answer.counts k d within) (λ a. let fit = a.applies in cc);
  whole = λ o listed fits_too. ⊎_elim
      (λ before. answer.whole o before fits_too)
      (λ is. let fit : fits e.pattern m ≡ true = ap (λ (y : Entry). fits y.pattern m) is ∙ fits_too in cc)
      (Contains-push_cases es e o listed);
}

-- all that are left
answer_all : (m : List ℕ) (es rest xs : List Entry) → IsAnswer es m xs → IsAnswer (es ++ rest) m (fold put xs (fitting rest m))
answer_all m es [] xs answer = subst (λ (l : List Entry). IsAnswer l m xs) (sym (append-nil es)) answer
answer_all m es (e ∷ rest) xs answer = by (answer_all m (es ++ e ∷ []) rest (put xs e)) (answer_all m (es ++ e ∷ []) rest xs) (fits e.pattern m) refl where
  by : (IsAnswer (es ++ e ∷ []) m (put xs e) → IsAnswer ((es ++ e ∷ []) ++ rest) m (fold put (put xs e) (fitting rest m)))
      → (IsAnswer (es ++ e ∷ []) m xs → IsAnswer ((es ++ e ∷ []) ++ rest) m (fold put xs (fitting rest m)))
      → (b : Bool) → fits e.pattern m ≡ b → IsAnswer (es ++ e ∷ rest) m (fold put xs (cond b (e ∷ fitting rest m) (fitting rest m)))
  by yes' no' true h = subst (λ (l : List Entry). IsAnswer l m (fold put (put xs e) (fitting rest m))) (append_assoc es (e ∷ []) rest) (yes' (answer_more es m xs e h answer))
  by yes' no' false h = subst (λ (l : List Entry). IsAnswer l m (fold put xs (fitting rest m))) (append_assoc es (e ∷ []) rest) (no' (answer_same es m xs e h answer))

-- the winners are the answer
pub winners_answer : (es : List Entry) (m : List ℕ) → IsAnswer es m (winners es m)
winners_answer es m = answer_all m [] es [] record {
  rises = λ i j d less within. absurd (omega arith);
  counts = All-nil (Counts [] m);
  whole = λ e listed fit. absurd (omega (arith, listed.1));
}
