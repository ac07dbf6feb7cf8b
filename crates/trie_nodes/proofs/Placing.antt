-- Where an entry is put among others.
use Rattle.std.proofs.Common.{◌≡◌, ◌≢◌, ℕ, zero, suc, ◌+◌, ◌-◌, ◌<◌, List, ◌∷◌, [], ◌++◌, length, take, map, set, get_or, refl, sym, ◌∙◌, ap, append-nil, arith, All, cond, true, false, nat_lt}
use Rattle.std.proofs.Math.Logic.{⊎_elim}
use Rattle.std.proofs.lemmas.Bool.{cases_order}
use Rattle.std.proofs.lemmas.List.{get_or_default, map-append, take_more}
use Rattle.std.proofs.lemmas.List.Elements.{All-cons, All-tail, filter-append}
use Rattle.std.specs.List.{HoldsAt}
use Rattle.std.specs.Ordering.{is_lt}
use Rattle.std.specs.declared.cmp.Ordering.{Ordering}
use Rattle.std.specs.declared.cmp.Ordering.TheVariants.{Less, Equal, Greater}
use Rattle.text_core.specs.Fits.{fits}
use Rattle.trie_nodes.specs.declared.entry.Entry.{Entry}
use Rattle.trie_nodes.specs.Found.{stripped}
use Rattle.trie_nodes.specs.Places.{NoneAfter, placed}
use Rattle.trie_nodes.specs.Query.{fitting, put, winner}
use Rattle.text_bytes.specs.Insertion.{text_order}
use Rattle.trie_nodes.specs.Winning.{KeysRise}
use Rattle.trie_nodes.proofs.Keys.{before_trans, reversed, itself, same_key}

-- an entry takes the place of the one with its key, or leaves it there
pub put_found : (xs : List Entry) (i : ℕ) (e : Entry) → KeysRise xs → i < length xs → HoldsAt (λ (x : Entry). x.key ≡ e.key) xs i
    → put xs e ≡ set xs i (winner (get_or xs i e) e)
put_found [] i e rises within same = absurd (omega arith)
put_found (x ∷ xs) zero e rises within same =
    ap (λ (o : Ordering). placed o e x xs (put xs e)) (ap (λ k. text_order k e.key) (same x) ∙ itself e.key)
put_found (x ∷ xs) (suc i) e rises within same =
    let below : text_order x.key e.key ≡ Less = ap (λ k. text_order x.key k) (sym (same e)) ∙ rises zero (suc i) e (omega arith) within in
    ap (λ (o : Ordering). placed o e x xs (put xs e)) below
    ∙ ap (λ (l : List Entry). x ∷ l) (put_found xs i e (λ a b d l w. rises (suc a) (suc b) d (omega arith) (omega arith)) (omega arith) same)

-- an entry whose key comes after all others
pub put_after : (xs : List Entry) (e : Entry) → All (λ (x : Entry). text_order x.key e.key ≡ Less) xs → put xs e ≡ xs ++ e ∷ []
put_after [] e low = refl
put_after (x ∷ xs) e low =
    ap (λ (o : Ordering). placed o e x xs (put xs e)) (low zero x (omega arith))
    ∙ ap (λ (l : List Entry). x ∷ l) (put_after xs e (All-tail (λ (x : Entry). text_order x.key e.key ≡ Less) x xs low))

-- if keys rise, a key that comes before none of them, and is not the last, comes after all
pub all_before : (xs : List Entry) (key : List ℕ) → KeysRise xs → NoneAfter xs key → ((x : Entry) → 0 < length xs → x ≡ get_or xs (length xs - 1) x → x.key ≢ key)
    → All (λ (x : Entry). text_order x.key key ≡ Less) xs
all_before xs key rises following apart k d within = by (text_order (get_or xs k d).key key) refl where
  last : Entry
  last = get_or xs (length xs - 1) d

  clash : (e : Entry) → text_order key e.key ≡ Less → is_lt (text_order key e.key) ≡ false → ⊥
  clash e less not_less = let wrong : true ≡ false = sym (ap is_lt less) ∙ not_less in cc

  by : (o : Ordering) → text_order (get_or xs k d).key key ≡ o → o ≡ Less
  by Less h = refl
  by Greater h = absurd (clash (get_or xs k d) (reversed (get_or xs k d).key key h) (following k d within))
  by Equal h = ⊎_elim
      (λ (is : k ≡ length xs - 1). absurd (apart last (omega arith) (get_or_default xs (length xs - 1) d last (omega arith)) (ap (λ n. (get_or xs n d).key) (sym is) ∙ same_key (get_or xs k d).key key h)))
      (⊎_elim
      (λ (less : k < length xs - 1). absurd (clash last (ap (λ (a : List ℕ). text_order a last.key) (sym (same_key (get_or xs k d).key key h)) ∙ rises k (length xs - 1) d less (omega arith)) (following (length xs - 1) d (omega arith))))
      (λ (more : length xs - 1 < k). absurd (omega arith)))
      (cases_order k (length xs - 1))

-- one entry before others whose keys rise and are greater
pub rises_cons : (x : Entry) (xs : List Entry) → All (λ (y : Entry). text_order x.key y.key ≡ Less) xs → KeysRise xs → KeysRise (x ∷ xs)
rises_cons x xs first rest zero zero d less within = absurd (omega arith)
rises_cons x xs first rest zero (suc j) d less within = first j d (omega arith)
rises_cons x xs first rest (suc i) zero d less within = absurd (omega arith)
rises_cons x xs first rest (suc i) (suc j) d less within = rest i j d (omega arith) (omega arith)

-- the entries after the first
pub rises_tail : (x : Entry) (xs : List Entry) → KeysRise (x ∷ xs) → KeysRise xs
rises_tail x xs rises i j d less within = rises (suc i) (suc j) d (omega arith) (omega arith)

-- their keys are greater than the first's
pub rises_head : (x : Entry) (xs : List Entry) → KeysRise (x ∷ xs) → All (λ (y : Entry). text_order x.key y.key ≡ Less) xs
rises_head x xs rises k d within = rises zero (suc k) d (omega arith) (omega arith)

-- what holds of the entries and of the one that is put holds of all
pub put_all : (P : Entry → Type 0) (xs : List Entry) (e : Entry) → All P xs → P e → All P (put xs e)
put_all P [] e all one = All-cons P e [] one all
put_all P (x ∷ xs) e all one = by (put_all P xs e (λ k d within. all (suc k) d (omega arith)) one) (text_order x.key e.key) where
  rest : All P xs
  rest k d within = all (suc k) d (omega arith)

  by : All P (put xs e) → (o : Ordering) → All P (placed o e x xs (put xs e))
  by following Less = All-cons P x (put xs e) (all zero x (omega arith)) following
  by following Equal = All-cons P (winner x e) xs (elim (nat_lt e.order x.order) as (λ b. P (cond b x e)) [ true ↦ all zero x (omega arith) | false ↦ one ]) rest
  by following Greater = All-cons P e (x ∷ xs) one all

-- keys still rise with one more entry
pub put_rises : (xs : List Entry) (e : Entry) → KeysRise xs → KeysRise (put xs e)
put_rises [] e rises = rises_cons e [] (λ k d within. absurd (omega arith)) rises
put_rises (x ∷ xs) e rises = by (put_rises xs e (rises_tail x xs rises)) (text_order x.key e.key) refl where
  by : KeysRise (put xs e) → (o : Ordering) → text_order x.key e.key ≡ o → KeysRise (placed o e x xs (put xs e))
  by following Less h = rises_cons x (put xs e) (put_all (λ y. text_order x.key y.key ≡ Less) xs e (rises_head x xs rises) h) following
  by following Equal h = rises_cons (winner x e) xs (elim (nat_lt e.order x.order) as (λ b. All (λ (y : Entry). text_order (cond b x e).key y.key ≡ Less) xs) [
    | true ↦ rises_head x xs rises
    | false ↦ λ k d within. ap (λ key. text_order key (get_or xs k d).key) (sym (same_key x.key e.key h)) ∙ rises_head x xs rises k d within
  ]) (rises_tail x xs rises)
  by following Greater h = rises_cons e (x ∷ xs) (All-cons (λ (y : Entry). text_order e.key y.key ≡ Less) x xs (reversed x.key e.key h)
      (λ k d within. before_trans e.key x.key (get_or xs k d).key (reversed x.key e.key h) (rises_head x xs rises k d within))) rises

-- one entry more that was looked at
module _ (es : List Entry) (m : List ℕ) (i : ℕ) (e : Entry) (within : i < length es) (is : e ≡ get_or es i e) where
  split : take (i + 1) es ≡ take i es ++ e ∷ []
  split = take_more es i e within ∙ ap (λ (x : Entry). take i es ++ x ∷ []) (sym is)

  fitting_more : fitting (take (i + 1) es) m ≡ fitting (take i es) m ++ cond (fits e.pattern m) (e ∷ []) []
  fitting_more = ap (λ l. fitting l m) split ∙ filter-append (λ e. fits e.pattern m) (take i es) (e ∷ [])

  -- it fits
  pub fits_more : fits e.pattern m ≡ true → map stripped (fitting (take i es) m) ++ stripped e ∷ [] ≡ map stripped (fitting (take (i + 1) es) m)
  fits_more fit = sym (map-append stripped (fitting (take i es) m) (e ∷ [])) ∙ ap (λ b. map stripped (fitting (take i es) m ++ cond b (e ∷ []) [])) (sym fit) ∙ ap (map stripped) (sym fitting_more)

  -- it does not
  pub passes_more : fits e.pattern m ≡ false → map stripped (fitting (take i es) m) ≡ map stripped (fitting (take (i + 1) es) m)
  passes_more unfit = ap (map stripped) (sym (append-nil (fitting (take i es) m)) ∙ ap (λ b. fitting (take i es) m ++ cond b (e ∷ []) []) (sym unfit) ∙ sym fitting_more)
