-- What is sorted by key settles as it was listed.
use Rattle.std.proofs.Common.{◌≡◌, ◌≢◌, ℕ, zero, suc, ◌<◌, Bool, true, false, cond, not, ◌&&◌, nat_lt, List, ◌∷◌, [], length, filter, fold, get_or, refl, sym, ◌∙◌, ap, arith, subst, All}
use Rattle.std.proofs.lemmas.List.Elements.{All-nil, All-cons, All-tail, All-filter, All-contains, All-contains_itself}
use Rattle.std.specs.List.{Contains}
use Rattle.std.specs.Ordering.{is_lt}
use Rattle.std.specs.declared.cmp.Ordering.{Ordering}
use Rattle.std.specs.declared.cmp.Ordering.TheVariants.{Less, Equal, Greater}
use Rattle.trie_nodes.specs.declared.entry.Entry.{Entry}
use Rattle.trie_nodes.specs.Query.{put, winner}
use Rattle.trie_nodes.specs.Places.{placed}
use Rattle.text_bytes.specs.Insertion.{text_order}
use Rattle.trie_nodes.specs.Winning.{KeysRise}
use Rattle.trie_nodes.proofs.Counting.{differs, following}
use Rattle.trie_nodes.proofs.Keys.{before_trans, reversed, itself, same_key}
use Rattle.trie_nodes.proofs.Placing.{put_all, put_rises, rises_head, rises_tail}
use Rattle.trie_nodes.proofs.Unique.{one_list}

-- whether an entry has a key, by how the two compare
abbrev pub alike : List ℕ → Entry → Bool
alike key e = not (is_lt (text_order key e.key)) && not (is_lt (text_order e.key key))

alike_same : (k : List ℕ) (e : Entry) → alike k e ≡ true → k ≡ e.key
alike_same k e h = by (text_order k e.key) refl where
  by : (o : Ordering) → text_order k e.key ≡ o → k ≡ e.key
  by Less o = let first : not (is_lt (text_order k e.key)) ≡ false = ap (λ (v : Ordering). not (is_lt v)) o in absurd (let clash : false && not (is_lt (text_order e.key k)) ≡ true = ap (λ b. b && not (is_lt (text_order e.key k))) (sym first) ∙ h in cc)
  by Equal o = same_key k e.key o
  by Greater o =
      let second : not (is_lt (text_order e.key k)) ≡ false = ap (λ (v : Ordering). not (is_lt v)) (reversed k e.key o) in
      let first : not (is_lt (text_order k e.key)) ≡ true = ap (λ (v : Ordering). not (is_lt v)) o in
      absurd (let clash : true && false ≡ true = ap (λ b. b && false) (sym first) ∙ ap (λ b. not (is_lt (text_order k e.key)) && b) (sym second) ∙ h in cc)

alike_own : (e : Entry) → alike e.key e ≡ true
alike_own e = ap (λ (o : Ordering). not (is_lt o) && not (is_lt o)) (itself e.key)

-- an entry whose key is another's is not alike
unlike : (k : List ℕ) (x : Entry) → k ≢ x.key → alike k x ≡ false
unlike k x apart = by (alike k x) refl where
  by : (b : Bool) → alike k x ≡ b → alike k x ≡ false
  by true h = absurd (apart (alike_same k x h))
  by false h = h

filter_none : (p : Entry → Bool) (xs : List Entry) → All (λ (x : Entry). p x ≡ false) xs → filter p xs ≡ []
filter_none p [] h = refl
filter_none p (x ∷ xs) h = ap (λ b. cond b (x ∷ filter p xs) (filter p xs)) (h zero x (omega arith)) ∙ filter_none p xs (All-tail (λ (x : Entry). p x ≡ false) x xs h)

module _ (k : List ℕ) where
  abbrev alikes : List Entry → List Entry
  alikes xs = filter (alike k) xs

  winner_alike : (x e : Entry) → x.key ≡ e.key → alike k (winner x e) ≡ alike k e
  winner_alike x e same = elim (nat_lt e.order x.order) as (λ b. alike k (cond b x e) ≡ alike k e) [
    | true ↦ ap (λ key. not (is_lt (text_order k key)) && not (is_lt (text_order key k))) same
    | false ↦ refl
  ]

  -- an entry of another key changes nothing among those alike
  put_unlike : (xs : List Entry) (e : Entry) → alike k e ≡ false → alikes (put xs e) ≡ alikes xs
  put_unlike [] e h = ap (λ b. cond b (e ∷ []) []) h
  put_unlike (x ∷ xs) e h = by (put_unlike xs e h) (text_order x.key e.key) refl where
    by : alikes (put xs e) ≡ alikes xs → (o : Ordering) → text_order x.key e.key ≡ o → alikes (placed o e x xs (put xs e)) ≡ alikes (x ∷ xs)
    by rest Less o = ap (λ (l : List Entry). cond (alike k x) (x ∷ l) l) rest
    by rest Equal o =
        let same : x.key ≡ e.key = same_key x.key e.key o in
        ap (λ b. cond b (winner x e ∷ alikes xs) (alikes xs)) (winner_alike x e same ∙ h)
        ∙ sym (ap (λ b. cond b (x ∷ alikes xs) (alikes xs)) (ap (λ key. not (is_lt (text_order k key)) && not (is_lt (text_order key k))) same ∙ h))
    by rest Greater o = ap (λ b. cond b (e ∷ alikes (x ∷ xs)) (alikes (x ∷ xs))) h

  -- one with the key is put among those alike
  put_alike : (xs : List Entry) (e : Entry) → alike k e ≡ true → KeysRise xs → alikes (put xs e) ≡ put (alikes xs) e
  put_alike [] e h rises = ap (λ b. cond b (e ∷ []) []) h
  put_alike (x ∷ xs) e h rises = by (put_alike xs e h (rises_tail x xs rises)) (text_order x.key e.key) refl where
    is : k ≡ e.key
    is = alike_same k e h

    by : alikes (put xs e) ≡ put (alikes xs) e → (o : Ordering) → text_order x.key e.key ≡ o → alikes (placed o e x xs (put xs e)) ≡ put (alikes (x ∷ xs)) e
    by rest Less o =
        let out : alike k x ≡ false = unlike k x (λ same. differs x.key e.key o (sym same ∙ is)) in
        ap (λ b. cond b (x ∷ alikes (put xs e)) (alikes (put xs e))) out ∙ rest ∙ sym (ap (λ b. put (cond b (x ∷ alikes xs) (alikes xs)) e) out)
    by rest Equal o =
        let same : x.key ≡ e.key = same_key x.key e.key o in
        let own : alike k x ≡ true = ap (λ key. not (is_lt (text_order k key)) && not (is_lt (text_order key k))) same ∙ h in
        ap (λ b. cond b (winner x e ∷ alikes xs) (alikes xs)) (winner_alike x e same ∙ h)
        ∙ sym (ap (λ b. put (cond b (x ∷ alikes xs) (alikes xs)) e) own ∙ ap (λ (v : Ordering). placed v e x (alikes xs) (put (alikes xs) e)) o)
    by rest Greater o =
        let back : text_order e.key x.key ≡ Less = reversed x.key e.key o in
        let none : alikes (x ∷ xs) ≡ [] = filter_none (alike k) (x ∷ xs) (All-cons (λ (y : Entry). alike k y ≡ false) x xs
        (unlike k x (λ same. differs e.key x.key back (sym is ∙ same)))
        (λ i d within. unlike k (get_or xs i d) (λ same. differs e.key (get_or xs i d).key (before_trans e.key x.key (get_or xs i d).key back (rises_head x xs rises i d within)) (sym is ∙ same)))) in
        ap (λ b. cond b (e ∷ alikes (x ∷ xs)) (alikes (x ∷ xs))) h ∙ ap (λ (l : List Entry). e ∷ l) none ∙ sym (ap (λ (l : List Entry). put l e) none)

  fold_alike : (xs es : List Entry) → KeysRise xs → alikes (fold put xs es) ≡ fold put (alikes xs) (alikes es)
  fold_alike xs [] rises = refl
  fold_alike xs (e ∷ es) rises = by (fold_alike (put xs e) es (put_rises xs e rises)) (alike k e) refl where
    by : alikes (fold put (put xs e) es) ≡ fold put (alikes (put xs e)) (alikes es) → (b : Bool) → alike k e ≡ b
        → alikes (fold put (put xs e) es) ≡ fold put (alikes xs) (cond b (e ∷ alikes es) (alikes es))
    by rest true h = rest ∙ ap (λ (l : List Entry). fold put l (alikes es)) (put_alike xs e h rises)
    by rest false h = rest ∙ ap (λ (l : List Entry). fold put l (alikes es)) (put_unlike xs e h)

-- keys of all that were put rise
pub fold_rises : (xs es : List Entry) → KeysRise xs → KeysRise (fold put xs es)
fold_rises xs [] rises = rises
fold_rises xs (e ∷ es) rises = fold_rises (put xs e) es (put_rises xs e rises)

pub none_rise : KeysRise []
none_rise i j d less within = absurd (omega arith)

-- what holds of all that are put holds of what counts
pub fold_all : (P : Entry → Type 0) (xs es : List Entry) → All P xs → All P es → All P (fold put xs es)
fold_all P xs [] all more = all
fold_all P xs (e ∷ es) all more = fold_all P (put xs e) es (put_all P xs e all (more zero e (omega arith))) (All-tail P e es more)

filter_has : (p : Entry → Bool) (xs : List Entry) (k : ℕ) (d : Entry) → k < length xs → p (get_or xs k d) ≡ true → Contains (filter p xs) (get_or xs k d)
filter_has p [] k d within h = absurd (omega arith)
filter_has p (x ∷ xs) zero d within h = subst (λ b. Contains (cond b (x ∷ filter p xs) (filter p xs)) x) (sym h) (zero, omega arith, refl)
filter_has p (x ∷ xs) (suc k) d within h = elim (p x) as (λ b. Contains (cond b (x ∷ filter p xs) (filter p xs)) (get_or xs k d)) [
  | true ↦ following x (filter p xs) (get_or xs k d) (filter_has p xs k d (omega arith) h)
  | false ↦ filter_has p xs k d (omega arith) h
]

-- two lists have the same entries of a key in the same order
abbrev pub AlikeIn : List Entry → List Entry → List ℕ → Type 0
AlikeIn xs ys key = filter (alike key) xs ≡ filter (alike key) ys

-- what counts in one list does so in the other
each_in : (xs ys : List Entry) → All (λ (e : Entry). AlikeIn xs ys e.key) xs → All (Contains (fold put [] ys)) (fold put [] xs)
each_in xs ys same k d within =
    let won : List Entry = fold put [] xs in
    let other : List Entry = fold put [] ys in
    let w : Entry = get_or won k d in
    let one : filter (alike w.key) won ≡ filter (alike w.key) other =
    fold_alike w.key [] xs none_rise
    ∙ ap (fold put []) (fold_all (λ (e : Entry). AlikeIn xs ys e.key) [] xs (All-nil (λ (e : Entry). AlikeIn xs ys e.key)) same k d within)
    ∙ sym (fold_alike w.key [] ys none_rise) in
    All-contains (Contains other) (filter (alike w.key) other) w (All-filter (alike w.key) (Contains other) other (All-contains_itself other))
    (subst (λ (l : List Entry). Contains l w) one (filter_has (alike w.key) won k d within (alike_own w)))

-- lists that have the same entries of each key in the same order settle alike
pub settle_alike : (xs ys : List Entry) → All (λ (e : Entry). AlikeIn xs ys e.key) xs → All (λ (e : Entry). AlikeIn ys xs e.key) ys → fold put [] xs ≡ fold put [] ys
settle_alike xs ys to fro = one_list (fold put [] xs) (fold put [] ys) (fold_rises [] xs none_rise) (fold_rises [] ys none_rise) (each_in xs ys to) (each_in ys xs fro)
