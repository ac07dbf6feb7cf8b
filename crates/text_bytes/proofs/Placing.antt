-- Files in their place among others that are sorted by name.
use Rattle.std.proofs.Common.{◌≡◌, ℕ, zero, suc, ◌<◌, ◌≤◌, Bool, true, false, List, [], ◌∷◌, ◌++◌, length, fold, cond, ltb, eqb, get_or, Some, refl, ap, sym, ◌∙◌, arith}
use Rattle.std.specs.BTreeMap.{insert_entry}
use Rattle.std.specs.List.{AllByRecursion, ends_with}
use Rattle.std.specs.List.Sorted.{IsStrictlySortedBy}
use Rattle.std.specs.Map.{lookup, values_of}
use Rattle.std.specs.Ordering.{nat_cmp, is_eq, match_ordering, ordering_reverse}
use Rattle.std.specs.declared.cmp.Ordering.{Ordering}
use Rattle.std.specs.declared.cmp.Ordering.TheVariants.{Less, Equal, Greater}
use Rattle.std.specs.Cmp.Lexicographic.{slice_cmp}
use Rattle.std.proofs.lemmas.Cmp.{nat_list_cmp_total}
use Rattle.std.proofs.lemmas.Bool.{lt-ltb, le-ltb, leb-true, leb-false}
use Rattle.std.proofs.lemmas.List.Elements.{filter-append}
use Rattle.std.proofs.lemmas.List.Sums.{fold-append}
use Rattle.std.proofs.lemmas.Map.Lookups.{exact_bytes}
use Rattle.text_bytes.specs.ByName.{AreUnderTheirNames, hides}
use Rattle.text_bytes.specs.FileOrder.{winner, put, with_suffix, ordered}
use Rattle.text_bytes.specs.OrderLaws.{file_names, NamesRise}
use Rattle.text_bytes.specs.declared.source_file.SourceFile.{SourceFile}

-- how two names compare
abbrev pub order : List ℕ → List ℕ → Ordering
order = slice_cmp nat_cmp

-- a file after x, against x or before it, as a comparison of their names comes out
abbrev pub placed : Ordering → SourceFile → SourceFile → List SourceFile → List SourceFile → List SourceFile
placed o e x xs following = match_ordering o (x ∷ following) (winner x e ∷ xs) (e ∷ x ∷ xs)

-- every name is above this one
abbrev pub Above : List ℕ → List SourceFile → Type 0
Above name files = AllByRecursion (λ other. order name other ≡ Less) (file_names files)

above_at : (name : List ℕ) (xs : List SourceFile) (i : ℕ) (d : SourceFile) → Above name xs → i < length xs → order name (get_or xs i d).name ≡ Less
above_at name [] i d h l = absurd (omega arith)
above_at name (x ∷ xs) zero d h l = h.0
above_at name (x ∷ xs) (suc i) d h l = above_at name xs i d h.1 (omega arith)

pub rises_after : (x : SourceFile) (xs : List SourceFile) → NamesRise (x ∷ xs) → Above x.name xs × NamesRise xs
unfolding IsStrictlySortedBy
rises_after x xs h = h

pub rises_before : (x : SourceFile) (xs : List SourceFile) → Above x.name xs → NamesRise xs → NamesRise (x ∷ xs)
unfolding IsStrictlySortedBy
rises_before x xs a h = (a, h)

pub above_further : (low high : List ℕ) (xs : List SourceFile) → order low high ≡ Less → Above high xs → Above low xs
above_further low high [] l h = tt
above_further low high (x ∷ xs) l h = (nat_list_cmp_total.trans low high x.name l h.0, above_further low high xs l h.1)

-- no file of a name below all others hides one of that name
none_hides : {K : Type 0} (text : K → List ℕ) (es : List (K × SourceFile)) (e : SourceFile) → AreUnderTheirNames text es → Above e.name (values_of es)
    → hides (lookup (λ k. is_eq (order e.name (text k))) es) e ≡ false
none_hides text [] e named above = refl
none_hides text (p ∷ es) e named above =
    let less : order e.name (text p.0) ≡ Less = ap (order e.name) named.0 ∙ above.0 in
    ap (λ o. hides (cond (is_eq o) (Some p.1) (lookup (λ k. is_eq (order e.name (text k))) es)) e) less ∙ none_hides text es e named.1 above.1

-- a file that is hidden changes nothing
pub put_hidden : {K : Type 0} (text : K → List ℕ) (es : List (K × SourceFile)) (e : SourceFile) → AreUnderTheirNames text es → NamesRise (values_of es)
    → hides (lookup (λ k. is_eq (order e.name (text k))) es) e ≡ true → values_of es ≡ put (values_of es) e
put_hidden text [] e named rise h = cc
put_hidden {K} text (p ∷ es) e named rise h = by (put_hidden text es e named.1 (rises_after p.1 (values_of es) rise).1) (order e.name (text p.0)) refl h
  where
    back : (o : Ordering) → order e.name (text p.0) ≡ o → order p.1.name e.name ≡ ordering_reverse o
    back o is = nat_list_cmp_total.antisymm p.1.name e.name ∙ ap ordering_reverse (ap (order e.name) (sym named.0) ∙ is)

    Later : Type 0
    Later = hides (lookup (λ k. is_eq (order e.name (text k))) es) e ≡ true → values_of es ≡ put (values_of es) e

    by : Later → (o : Ordering) → order e.name (text p.0) ≡ o → hides (cond (is_eq o) (Some p.1) (lookup (λ k. is_eq (order e.name (text k))) es)) e ≡ true
        → p.1 ∷ values_of es ≡ placed (order p.1.name e.name) e p.1 (values_of es) (put (values_of es) e)
    by later Less is h =
        let less : order e.name p.1.name ≡ Less = ap (order e.name) (sym named.0) ∙ is in
        let none = none_hides text es e named.1 (above_further e.name p.1.name (values_of es) less (rises_after p.1 (values_of es) rise).0) in
        cc
    by later Equal is h =
        let up : p.1.rank ≤ e.rank = leb-true p.1.rank e.rank h in
        sym (ap (λ o. placed o e p.1 (values_of es) (put (values_of es) e)) (back Equal is) ∙ ap (λ b. cond b e p.1 ∷ values_of es) (le-ltb e.rank p.1.rank up))
    by later Greater is h =
        ap (λ (xs : List SourceFile). p.1 ∷ xs) (later h)
        ∙ ap (λ o. placed o e p.1 (values_of es) (put (values_of es) e)) (sym (back Greater is))

-- a file that is not hidden is under its name, in the place of the one that is there
pub put_shown : {K : Type 0} (text : K → List ℕ) (es : List (K × SourceFile)) (k : K) (e : SourceFile) → AreUnderTheirNames text es → text k ≡ e.name
    → hides (lookup (λ k. is_eq (order e.name (text k))) es) e ≡ false → values_of (insert_entry (λ j k. order (text j) (text k)) es k e) ≡ put (values_of es) e
put_shown text [] k e named own h = refl
put_shown {K} text (p ∷ es) k e named own h = by (put_shown text es k e named.1 own) (order e.name (text p.0)) refl h
  where
    inserted : Ordering → List (K × SourceFile)
    inserted o = match_ordering o ((k, e) ∷ p ∷ es) ((p.0, e) ∷ es) (p ∷ insert_entry (λ j k. order (text j) (text k)) es k e)

    here : (o : Ordering) → order e.name (text p.0) ≡ o → order (text k) (text p.0) ≡ o
    here o is = ap (λ name. order name (text p.0)) own ∙ is

    back : (o : Ordering) → order e.name (text p.0) ≡ o → order p.1.name e.name ≡ ordering_reverse o
    back o is = nat_list_cmp_total.antisymm p.1.name e.name ∙ ap ordering_reverse (ap (order e.name) (sym named.0) ∙ is)

    Later : Type 0
    Later = hides (lookup (λ k. is_eq (order e.name (text k))) es) e ≡ false → values_of (insert_entry (λ j k. order (text j) (text k)) es k e) ≡ put (values_of es) e

    by : Later → (o : Ordering) → order e.name (text p.0) ≡ o → hides (cond (is_eq o) (Some p.1) (lookup (λ k. is_eq (order e.name (text k))) es)) e ≡ false
        → values_of (inserted (order (text k) (text p.0))) ≡ placed (order p.1.name e.name) e p.1 (values_of es) (put (values_of es) e)
    by later Less is h =
        ap (λ o. values_of (inserted o)) (here Less is) ∙ ap (λ o. placed o e p.1 (values_of es) (put (values_of es) e)) (sym (back Less is))
    by later Equal is h =
        let less : e.rank < p.1.rank = leb-false p.1.rank e.rank h in
        ap (λ o. values_of (inserted o)) (here Equal is)
        ∙ sym (ap (λ o. placed o e p.1 (values_of es) (put (values_of es) e)) (back Equal is) ∙ ap (λ b. cond b e p.1 ∷ values_of es) (lt-ltb e.rank p.1.rank less))
    by later Greater is h =
        ap (λ o. values_of (inserted o)) (here Greater is) ∙ ap (λ (xs : List SourceFile). p.1 ∷ xs) (later h)
        ∙ ap (λ o. placed o e p.1 (values_of es) (put (values_of es) e)) (sym (back Greater is))

-- its name is its own
pub named_inserted : {K : Type 0} (text : K → List ℕ) (es : List (K × SourceFile)) (k : K) (e : SourceFile) → AreUnderTheirNames text es → text k ≡ e.name
    → AreUnderTheirNames text (insert_entry (λ j k. order (text j) (text k)) es k e)
named_inserted text [] k e named own = (own, tt)
named_inserted {K} text (p ∷ es) k e named own = by (named_inserted text es k e named.1 own) (order (text k) (text p.0)) refl
  where
    by : AreUnderTheirNames text (insert_entry (λ j k. order (text j) (text k)) es k e) → (o : Ordering) → order (text k) (text p.0) ≡ o
        → AreUnderTheirNames text (match_ordering o ((k, e) ∷ p ∷ es) ((p.0, e) ∷ es) (p ∷ insert_entry (λ j k. order (text j) (text k)) es k e))
    by later Less is = (own, (named.0, named.1))
    by later Equal is = (sym (exact_bytes (text k) (text p.0) is) ∙ own, named.1)
    by later Greater is = (named.0, later)

-- the lesser or the other
above-winner : (name : List ℕ) (x e : SourceFile) (b : Bool) → order name x.name ≡ Less → order name e.name ≡ Less → order name (cond b e x).name ≡ Less
above-winner name x e true hx he = he
above-winner name x e false hx he = hx

above-placed : (name : List ℕ) (x : SourceFile) (xs : List SourceFile) (e : SourceFile) (o : Ordering) → order name x.name ≡ Less → Above name xs → order name e.name ≡ Less → Above name (put xs e)
    → Above name (placed o e x xs (put xs e))
above-placed name x xs e Less hx h he following = (hx, following)
above-placed name x xs e Equal hx h he following = (above-winner name x e (ltb e.rank x.rank) hx he, h)
above-placed name x xs e Greater hx h he following = (he, (hx, h))

-- all stay above a name that a further file is above, too
above-put : (name : List ℕ) (xs : List SourceFile) (e : SourceFile) → Above name xs → order name e.name ≡ Less → Above name (put xs e)
above-put name [] e h he = (he, tt)
above-put name (x ∷ xs) e h he = above-placed name x xs e (order x.name e.name) h.0 h.1 he (above-put name xs e h.1 he)

pub winner-name : (x e : SourceFile) (b : Bool) → x.name ≡ e.name → (cond b e x).name ≡ x.name
winner-name x e true same = sym same
winner-name x e false same = refl

placed-rises : (x : SourceFile) (xs : List SourceFile) (e : SourceFile) (o : Ordering) → order x.name e.name ≡ o → NamesRise (x ∷ xs) → NamesRise (put xs e) → NamesRise (placed o e x xs (put xs e))
placed-rises x xs e Less is h following = rises_before x (put xs e) (above-put x.name xs e (rises_after x xs h).0 is) following
placed-rises x xs e Equal is h following =
    let same : (winner x e).name ≡ x.name = winner-name x e (ltb e.rank x.rank) (exact_bytes x.name e.name is) in
    rises_before (winner x e) xs (rw same (rises_after x xs h).0) (rises_after x xs h).1
placed-rises x xs e Greater is h following =
    let less : order e.name x.name ≡ Less = nat_list_cmp_total.antisymm e.name x.name ∙ ap ordering_reverse is in
    rises_before e (x ∷ xs) (less, above_further e.name x.name xs less (rises_after x xs h).0) h

-- the names still rise
pub put-rises : (xs : List SourceFile) (e : SourceFile) → NamesRise xs → NamesRise (put xs e)
put-rises [] e h = rises_before e [] tt h
put-rises (x ∷ xs) e h = placed-rises x xs e (order x.name e.name) refl h (put-rises xs e (rises_after x xs h).1)

-- one file more, which is kept
pub ordered-push : (suffix : List ℕ) (files : List SourceFile) (e : SourceFile) → ends_with eqb e.name suffix ≡ true → ordered suffix (files ++ e ∷ []) ≡ put (ordered suffix files) e
ordered-push suffix files e h =
    let kept : with_suffix suffix (e ∷ []) ≡ e ∷ [] = rw h refl in
    ap (fold put []) (filter-append (λ (file : SourceFile). ends_with eqb file.name suffix) files (e ∷ []) ∙ ap (λ (es : List SourceFile). with_suffix suffix files ++ es) kept)
    ∙ fold-append put [] (with_suffix suffix files) (e ∷ [])

pub rises_none : NamesRise []
unfolding IsStrictlySortedBy
rises_none = tt
