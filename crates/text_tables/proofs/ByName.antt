-- Names with values in the order of the names: what is put in its place, and that no other list is sorted and has the same values.
use Rattle.std.proofs.Common.{◌≡◌, suc, ◌+◌, Bool, true, false, cond, ◌||◌, List, [], ◌∷◌, ◌++◌, get_or, map, fold, Option, Some, None, option_map, refl, ap, sym, subst, ◌∙◌, arith, append_assoc, true≢false}
use Rattle.std.specs.List.{AllByRecursion, IsDistinct}
use Rattle.std.specs.List.Sorted.{IsPermutation, IsSorted, IsStrictlySortedBy}
use Rattle.std.specs.Map.{IsKeyTest, keys_of}
use Rattle.std.specs.Ordering.{is_lt, match_ordering, ordering_reverse}
use Rattle.std.specs.declared.cmp.Ordering.{Ordering}
use Rattle.std.specs.declared.cmp.Ordering.TheVariants.{Less, Equal, Greater}
use Rattle.std.specs.Cmp.Lexicographic.{bytes_decides, on_texts_equal}
use Rattle.std.proofs.lemmas.Cmp.{nat_list_cmp_total}
use Rattle.std.proofs.lemmas.List.{append-nil}
use Rattle.std.proofs.lemmas.List.Sorted.{IsPermutation-map}
use Rattle.std.proofs.lemmas.Option.{same_Some}
use Rattle.std.proofs.lemmas.Map.Keys.{IsDistinct-IsPermutation}
use Rattle.std.proofs.lemmas.Map.Lookups.{exact_bytes}
use Rattle.indexmap.proofs.MapLemmas.{lookup_permutation}
use Rattle.text_bytes.specs.Insertion.{text_order}
use Rattle.text_bytes.specs.Text.{Text}
use Rattle.text_tables.specs.Texts.{same_text, AreOnce}
use Rattle.text_tables.specs.Pairs.{Pair, named, names, value_of, with_value, with_values}
use Rattle.text_tables.proofs.Found.{set_after, value_set}
use Rattle.text_tables.proofs.Held.{found, is_text, names_once, same, seen}
use Rattle.text_tables.specs.Sorted.{NamesRise, by_name, put}

-- ---- texts

are_same : (a b : Text) → a ≡ b → same_text a b ≡ true
are_same a b h = (bytes_decides a b).1 h

is_same : (a b : Text) → same_text a b ≡ true → a ≡ b
is_same a b h = (bytes_decides a b).0 h

flips : (a b : Text) → same_text a b ≡ same_text b a
flips a b = by (same_text a b) (same_text b a) refl refl
  where
    by : (p q : Bool) → same_text a b ≡ p → same_text b a ≡ q → p ≡ q
    by true q e f = sym (are_same b a (sym (is_same a b e))) ∙ f
    by false true e f = sym e ∙ are_same a b (sym (is_same b a f))
    by false false e f = refl

differ : (a b : Text) → text_order a b ≡ Less → a ≡ b → ⊥
differ a b l e =
    let same : text_order a a ≡ Less = ap (text_order a) e ∙ l in
    let both : Less ≡ Greater = sym same ∙ nat_list_cmp_total.antisymm a a ∙ ap ordering_reverse same in
    cc both

apart : (a b : Text) → text_order a b ≡ Less → same_text a b ≡ false
apart a b l = by (same_text a b) refl
  where
    by : (p : Bool) → same_text a b ≡ p → p ≡ false
    by true e = absurd (differ a b l (is_same a b e))
    by false e = refl

reversed : (a b : Text) → text_order a b ≡ Greater → text_order b a ≡ Less
reversed a b h = nat_list_cmp_total.antisymm b a ∙ ap ordering_reverse h

-- ---- names that rise

abbrev AboveAll : Text → List Text → Type 0
AboveAll name others = AllByRecursion (λ other. text_order name other ≡ Less) others

abbrev Above : Text → List Pair → Type 0
Above name pairs = AboveAll name (names pairs)

parted : (t : Text) (ts : List Text) → IsStrictlySortedBy text_order (t ∷ ts) → AboveAll t ts × IsStrictlySortedBy text_order ts
unfolding IsStrictlySortedBy
parted t ts h = h

made : (t : Text) (ts : List Text) → AboveAll t ts → IsStrictlySortedBy text_order ts → IsStrictlySortedBy text_order (t ∷ ts)
unfolding IsStrictlySortedBy
made t ts a h = (a, h)

rises_after : (p : Pair) (ps : List Pair) → NamesRise (p ∷ ps) → Above p.0 ps × NamesRise ps
rises_after p ps h = parted p.0 (names ps) h

rises_before : (p : Pair) (ps : List Pair) → Above p.0 ps → NamesRise ps → NamesRise (p ∷ ps)
rises_before p ps a h = made p.0 (names ps) a h

rises_none : NamesRise []
unfolding IsStrictlySortedBy
rises_none = tt

further : (low high : Text) (ts : List Text) → text_order low high ≡ Less → AboveAll high ts → AboveAll low ts
further low high [] l h = tt
further low high (t ∷ ts) l h = (nat_list_cmp_total.trans low high t l h.0, further low high ts l h.1)

above_further : (low high : Text) (ps : List Pair) → text_order low high ≡ Less → Above high ps → Above low ps
above_further low high ps l h = further low high (names ps) l h

-- ---- what is put in its place

abbrev placed : Ordering → Pair → Pair → List Pair → List Pair → List Pair
placed o e p ps following = match_ordering o (p ∷ following) (e ∷ ps) (e ∷ p ∷ ps)

above_put : (name : Text) (ps : List Pair) (e : Pair) → Above name ps → text_order name e.0 ≡ Less → Above name (put ps e)
above_put name [] e h he = (he, tt)
above_put name (p ∷ ps) e h he = by (text_order p.0 e.0) (above_put name ps e h.1 he)
  where
    by : (o : Ordering) → Above name (put ps e) → Above name (placed o e p ps (put ps e))
    by Less more = (h.0, more)
    by Equal more = (he, h.1)
    by Greater more = (he, h)

put_rises : (ps : List Pair) (e : Pair) → NamesRise ps → NamesRise (put ps e)
put_rises [] e h = rises_before e [] tt h
put_rises (p ∷ ps) e h = by (text_order p.0 e.0) refl (put_rises ps e (rises_after p ps h).1)
  where
    by : (o : Ordering) → text_order p.0 e.0 ≡ o → NamesRise (put ps e) → NamesRise (placed o e p ps (put ps e))
    by Less is more = rises_before p (put ps e) (above_put p.0 ps e (rises_after p ps h).0 is) more
    by Equal is more = rises_before e ps (subst (λ n. Above n ps) (exact_bytes p.0 e.0 is) (rises_after p ps h).0) (rises_after p ps h).1
    by Greater is more =
        let less : text_order e.0 p.0 ≡ Less = reversed p.0 e.0 is in
        rises_before e (p ∷ ps) (less, above_further e.0 p.0 ps less (rises_after p ps h).0) h

put_value : (ps : List Pair) (e : Pair) (name : Text) → value_of (put ps e) name ≡ cond (same_text name e.0) (Some e.1) (value_of ps name)
put_value [] e name = refl
put_value (p ∷ ps) e name = by (text_order p.0 e.0) refl (put_value ps e name)
  where
    later : (a b : Bool) (r : Option Text) → (a ≡ true → b ≡ true → true ≡ false) → r ≡ cond b (Some e.1) (value_of ps name)
        → cond a (Some p.1) r ≡ cond b (Some e.1) (cond a (Some p.1) (value_of ps name))
    later true true r both h = absurd (true≢false (both refl refl))
    later true false r both h = refl
    later false true r both h = h
    later false false r both h = h

    instead : (a b : Bool) → a ≡ b → cond b (Some e.1) (value_of ps name) ≡ cond b (Some e.1) (cond a (Some p.1) (value_of ps name))
    instead true true h = refl
    instead true false h = absurd (true≢false h)
    instead false true h = refl
    instead false false h = refl

    by : (o : Ordering) → text_order p.0 e.0 ≡ o → value_of (put ps e) name ≡ cond (same_text name e.0) (Some e.1) (value_of ps name)
        → value_of (placed o e p ps (put ps e)) name ≡ cond (same_text name e.0) (Some e.1) (cond (same_text name p.0) (Some p.1) (value_of ps name))
    by Less is more =
        later (same_text name p.0) (same_text name e.0) (value_of (put ps e) name)
        (λ a b. sym (are_same p.0 e.0 (sym (is_same name p.0 a) ∙ is_same name e.0 b)) ∙ apart p.0 e.0 is) more
    by Equal is more = instead (same_text name p.0) (same_text name e.0) (ap (same_text name) (exact_bytes p.0 e.0 is))
    by Greater is more = refl

all_rise : (es ps : List Pair) → NamesRise ps → NamesRise (fold put ps es)
all_rise [] ps h = h
all_rise (e ∷ es) ps h = all_rise es (put ps e) (put_rises ps e h)

all_values : (es ps qs : List Pair) (name : Text) → ((n : Text) → value_of ps n ≡ value_of qs n) → value_of (fold put ps es) name ≡ value_of (with_values qs es) name
all_values [] ps qs name h = h name
all_values (e ∷ es) ps qs name h =
    all_values es (put ps e) (with_value qs e.0 e.1) name
    (λ n. put_value ps e n ∙ ap (λ o. cond (same_text n e.0) (Some e.1) o) (h n) ∙ sym (value_set qs e.0 e.1 n))

-- ---- no other list

absent : (name : Text) (ps : List Pair) → Above name ps → value_of ps name ≡ None
absent name [] h = refl
absent name (p ∷ ps) h = ap (λ b. cond b (Some p.1) (value_of ps name)) (apart name p.0 h.0) ∙ absent name ps h.1

first : (p : Pair) (ps : List Pair) → value_of (p ∷ ps) p.0 ≡ Some p.1
first p ps = ap (λ b. cond b (Some p.1) (value_of ps p.0)) (are_same p.0 p.0 refl)

same_pair : (p q : Pair) → p.0 ≡ q.0 → p.1 ≡ q.1 → p ≡ q
same_pair p q name value = ap (λ n. (n, p.1)) name ∙ ap (λ v. (q.0, v)) value

-- with rising names the same values are the same list
one_list : (ps qs : List Pair) → NamesRise ps → NamesRise qs → ((n : Text) → value_of ps n ≡ value_of qs n) → ps ≡ qs
one_list [] [] up up' same = refl
one_list [] (q ∷ qs) up up' same = cc (same q.0 ∙ first q qs)
one_list (p ∷ ps) [] up up' same = cc (sym (first p ps) ∙ same p.0)
one_list (p ∷ ps) (q ∷ qs) up up' same = by (text_order p.0 q.0) refl (one_list ps qs (rises_after p ps up).1 (rises_after q qs up').1)
  where
    tail : (n : Text) (name : p.0 ≡ q.0) → value_of ps n ≡ value_of qs n
    tail n name = elim_same (same_text n p.0) refl
      where
        elim_same : (b : Bool) → same_text n p.0 ≡ b → value_of ps n ≡ value_of qs n
        elim_same true e =
            ap (value_of ps) (is_same n p.0 e) ∙ absent p.0 ps (rises_after p ps up).0
            ∙ sym (ap (value_of qs) (is_same n p.0 e ∙ name) ∙ absent q.0 qs (rises_after q qs up').0)
        elim_same false e =
            sym (ap (λ b. cond b (Some p.1) (value_of ps n)) e) ∙ same n
            ∙ ap (λ b. cond b (Some q.1) (value_of qs n)) (ap (same_text n) (sym name) ∙ e)

    by : (o : Ordering) → text_order p.0 q.0 ≡ o → (((n : Text) → value_of ps n ≡ value_of qs n) → ps ≡ qs) → p ∷ ps ≡ q ∷ qs
    by Less is more =
        let there : Some p.1 ≡ None = sym (first p ps) ∙ same p.0 ∙ absent p.0 (q ∷ qs) (is, above_further p.0 q.0 qs is (rises_after q qs up').0) in
        cc there
    by Greater is more =
        let less : text_order q.0 p.0 ≡ Less = reversed p.0 q.0 is in
        let there : Some q.1 ≡ None = sym (first q qs) ∙ sym (same q.0) ∙ absent q.0 (p ∷ ps) (less, above_further q.0 p.0 ps less (rises_after p ps up).0) in
        cc there
    by Equal is more =
        let name : p.0 ≡ q.0 = exact_bytes p.0 q.0 is in
        let value : p.1 ≡ q.1 = same_Some p.1 q.1 (sym (first p ps) ∙ same p.0 ∙ ap (λ n. value_of (q ∷ qs) n) name ∙ first q qs) in
        ap (λ h. h ∷ ps) (same_pair p q name value) ∙ ap (λ t. q ∷ t) (more (λ n. tail n name))

-- ---- lists whose names are once

module _ {K : Type 0} (text value : K → Text) where
  -- each element as a property
  abbrev pub shown : List K → List Pair
  shown ks = map (λ k. (text k, value k)) ks

  abbrev pub set_each : List Pair → List K → List Pair
  set_each held ks = fold (λ h k. with_value h (text k) (value k)) held ks

  abbrev Missing : List Pair → List K → Type 0
  Missing held ks = AllByRecursion (λ n. named held n ≡ false) (map text ks)

  one_more : (held : List Pair) (p : Pair) (n : Text) → named held n ≡ false → same_text n p.0 ≡ false → named (held ++ p ∷ []) n ≡ false
  one_more [] p n h e = ap (λ b. b || false) e
  one_more (q ∷ held) p n h e = by (same_text n q.0) h (one_more held p n)
    where
      by : (b : Bool) → (b || named held n) ≡ false → (named held n ≡ false → same_text n p.0 ≡ false → named (held ++ p ∷ []) n ≡ false) → (b || named (held ++ p ∷ []) n) ≡ false
      by true h more = h
      by false h more = more h e

  still_missing : (held : List Pair) (k : K) (ks : List K) → Missing held ks → AllByRecursion (λ n. same_text (text k) n ≡ false) (map text ks) → Missing (held ++ (text k, value k) ∷ []) ks
  still_missing held k [] m d = tt
  still_missing held k (j ∷ ks) m d = (one_more held (text k, value k) (text j) m.0 (flips (text j) (text k) ∙ d.0), still_missing held k ks m.1 d.1)

  set_after_all : (held : List Pair) (ks : List K) → Missing held ks → IsDistinct same_text (map text ks) → set_each held ks ≡ held ++ shown ks
  unfolding IsDistinct
  set_after_all held [] m d = sym (append-nil held)
  set_after_all held (k ∷ ks) m d =
      ap (λ h. set_each h ks) (set_after held (text k) (value k) m.0)
      ∙ set_after_all (held ++ (text k, value k) ∷ []) ks (still_missing held k ks m.1 d.0) d.1
      ∙ append_assoc held ((text k, value k) ∷ []) (shown ks)

  none_held : (ks : List K) → Missing [] ks
  none_held [] = tt
  none_held (k ∷ ks) = (refl, none_held ks)

  -- names that are once are set one after another
  pub set_in_order : (ks : List K) → IsDistinct same_text (map text ks) → set_each [] ks ≡ shown ks
  set_in_order ks d = set_after_all [] ks (none_held ks) d

  names_shown : (ks : List K) → names (shown ks) ≡ map text ks
  names_shown [] = refl
  names_shown (k ∷ ks) = ap (λ ns. text k ∷ ns) (names_shown ks)

module _ {K : Type 0} (text : K → Text) where
  following : (k : K) (ks : List K) → IsSorted (λ a b. text_order (text a) (text b)) (k ∷ ks) → IsSorted (λ a b. text_order (text a) (text b)) ks
  following k ks s n e low h =
      let next : suc n + 1 ≡ suc (n + 1) = omega arith in
      subst (λ m. is_lt (text_order (text (get_or (k ∷ ks) m e)) (text (get_or ks n e))) ≡ false) next (s (suc n) e (omega arith) (omega (arith, h)))

  -- sorted names that are once rise
  strict : (ks : List K) → IsSorted (λ a b. text_order (text a) (text b)) ks → IsDistinct (λ a b. same_text (text a) (text b)) ks → IsStrictlySortedBy text_order (map text ks)
  unfolding IsDistinct
  strict [] s d = rises_none
  strict (k ∷ []) s d = made (text k) [] tt rises_none
  strict (k ∷ j ∷ ks) s d =
      let up : IsStrictlySortedBy text_order (map text (j ∷ ks)) = strict (j ∷ ks) (following k (j ∷ ks) s) d.1 in
      let less : text_order (text k) (text j) ≡ Less = by (text_order (text k) (text j)) refl in
      made (text k) (map text (j ∷ ks)) (less, further (text k) (text j) (map text ks) less (parted (text j) (map text ks) up).0) up
    where
      by : (o : Ordering) → text_order (text k) (text j) ≡ o → text_order (text k) (text j) ≡ Less
      by Less e = e
      by Equal e = absurd (true≢false (sym (are_same (text k) (text j) (exact_bytes (text k) (text j) e)) ∙ d.0.0))
      by Greater e = absurd (true≢false (sym (ap is_lt (reversed (text k) (text j) e)) ∙ s 0 k (omega arith) (omega arith)))

same_pairs : (pairs : List Pair) → shown (λ (p : Pair). p.0) (λ (p : Pair). p.1) pairs ≡ pairs
same_pairs [] = refl
same_pairs (p ∷ ps) = ap (λ qs. p ∷ qs) (same_pairs ps)

-- properties whose names are once have the same values when they are sorted
pub by_name_values : (pairs : List Pair) (name : Text) → AreOnce (names pairs) → value_of (by_name pairs) name ≡ value_of pairs name
by_name_values pairs name once =
    all_values pairs [] [] name (λ n. refl)
    ∙ ap (λ ps. value_of ps name) (set_in_order (λ (p : Pair). p.0) (λ (p : Pair). p.1) pairs once ∙ same_pairs pairs)

-- ---- entries of a map, seen as names with values

module _ {K V : Type 0} (text : K → Text) (value : V → Text) where
  names_seen : (es : List (K × V)) → names (map (seen text value) es) ≡ map (λ e. text e.0) es
  names_seen [] = refl
  names_seen (e ∷ es) = ap (λ ns. text e.0 ∷ ns) (names_seen es)

  one_key : (name : Text) → IsKeyTest (same text) (is_text text name)
  one_key name j k h = ap (λ n. same_text n (text k)) (is_same name (text j) h)

  rows_apart : (e : K × V) (es : List (K × V)) → AllByRecursion (λ k. same text e.0 k ≡ false) (keys_of es) → AllByRecursion (λ f. same text e.0 f.0 ≡ false) es
  rows_apart e [] h = tt
  rows_apart e (f ∷ es) h = (h.0, rows_apart e es h.1)

  rows_distinct : (es : List (K × V)) → IsDistinct (same text) (keys_of es) → IsDistinct (λ e f. same text e.0 f.0) es
  unfolding IsDistinct
  rows_distinct [] d = tt
  rows_distinct (e ∷ es) d = (rows_apart e es d.0, rows_distinct es d.1)

  -- entries of a map that were put in the order of their keys
  pub sorted_is : (es fs : List (K × V)) → IsPermutation es fs → IsDistinct (same text) (keys_of es) → IsSorted (λ e f. text_order (text e.0) (text f.0)) fs
      → map (seen text value) fs ≡ by_name (map (seen text value) es)
  sorted_is es fs moved distinct sorted =
      let after : IsDistinct (same text) (keys_of fs) =
      IsDistinct-IsPermutation (same text) (λ j k. flips (text j) (text k)) (keys_of es) (keys_of fs) (IsPermutation-map (λ (e : K × V). e.0) es fs moved) distinct in
      one_list (map (seen text value) fs) (by_name (map (seen text value) es))
      (subst (IsStrictlySortedBy text_order) (sym (names_seen fs)) (strict (λ (e : K × V). text e.0) fs sorted (rows_distinct fs after)))
      (all_rise (map (seen text value) es) [] rises_none)
      (λ n.
      sym (found text value fs n) ∙ ap (option_map value) (lookup_permutation (on_texts_equal text) es fs moved after (is_text text n) (one_key n)) ∙ found text value es n
      ∙ sym (by_name_values (map (seen text value) es) n (names_once text value es distinct)))

-- the names of sorted properties rise
pub by_name_rises : (pairs : List Pair) → NamesRise (by_name pairs)
by_name_rises pairs = all_rise pairs [] rises_none
