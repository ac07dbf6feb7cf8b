-- What the library's sets and maps hold, seen as lists of texts and of names with values.
use Rattle.std.proofs.Common.{◌≡◌, MatchOption, IsSomeAnd, ℕ, Bool, true, false, List, [], ◌∷◌, ◌++◌, ◌||◌, not, Option, Some, None, option_map, is_some, map, cond, refl, ap, sym, ◌∙◌, nat_eq, option_copied, Bor}
use Rattle.std.proofs.lemmas.List.{map-append}
use Rattle.std.specs.Cmp.Lexicographic.{pointwise}
use Rattle.std.specs.List.{list_any, IsDistinct, AllByRecursion}
use Rattle.std.specs.Map.{lookup, remove_entry, keys_of}
use Rattle.std.specs.Set.{remove_key}
use Rattle.indexmap.specs.IndexMap.{insert_entry}
use Rattle.indexmap.specs.IndexSet.{insert_key}
use Rattle.text_tables.specs.Texts.{is_among, with_text, without_text, AreOnce}
use Rattle.text_tables.specs.Pairs.{named, names, value_of, with_value, without_name}

module _ {K : Type 0} (text : K → List ℕ) where
  abbrev pub same : K → K → Bool
  same x y = pointwise nat_eq (text x) (text y)

  abbrev pub is_text : List ℕ → K → Bool
  is_text t k = pointwise nat_eq t (text k)

  -- a text is found exactly if the list has it
  pub among : (ks : List K) (t : List ℕ) → list_any (is_text t) ks ≡ is_among (map text ks) t
  among [] t = refl
  among (k ∷ ks) t = ap (λ b. is_text t k || b) (among ks t)

  -- a text that is put in goes last, unless it is there
  pub added : (ks : List K) (k : K) → map text (insert_key same ks k) ≡ with_text (map text ks) (text k)
  added ks k = by (list_any (same k) ks) (is_among (map text ks) (text k)) (among ks (text k))
    where
      by : (b c : Bool) → b ≡ c → map text (cond b ks (ks ++ k ∷ [])) ≡ cond c (map text ks) (map text ks ++ text k ∷ [])
      by true true e = refl
      by true false e = cc
      by false true e = cc
      by false false e = map-append text ks (k ∷ [])

  no_other : (ks : List K) (t : List ℕ) → list_any (is_text t) ks ≡ false → map text ks ≡ without_text (map text ks) t
  no_other [] t h = refl
  no_other (k ∷ ks) t h = by (is_text t k) h (no_other ks t)
    where
      by : (b : Bool) → (b || list_any (is_text t) ks) ≡ false → (list_any (is_text t) ks ≡ false → map text ks ≡ without_text (map text ks) t) → text k ∷ map text ks ≡ cond (not b) (text k ∷ without_text (map text ks) t) (without_text (map text ks) t)
      by true h more = cc
      by false h more = ap (λ ts. text k ∷ ts) (more h)

  -- a text that is removed, and is not found any more, was there once
  pub removed : (ks : List K) (t : List ℕ) → list_any (is_text t) (remove_key (is_text t) ks) ≡ false → map text (remove_key (is_text t) ks) ≡ without_text (map text ks) t
  removed [] t h = refl
  removed (k ∷ ks) t h = by (is_text t k) refl h (no_other ks t) (removed ks t)
    where
      by : (b : Bool) → is_text t k ≡ b → list_any (is_text t) (cond b ks (k ∷ remove_key (is_text t) ks)) ≡ false
          → (list_any (is_text t) ks ≡ false → map text ks ≡ without_text (map text ks) t)
          → (list_any (is_text t) (remove_key (is_text t) ks) ≡ false → map text (remove_key (is_text t) ks) ≡ without_text (map text ks) t)
          → map text (cond b ks (k ∷ remove_key (is_text t) ks)) ≡ cond (not b) (text k ∷ without_text (map text ks) t) (without_text (map text ks) t)
      by true e h none more = none h
      by false e h none more = ap (λ ts. text k ∷ ts) (more (sym (ap (λ b. b || list_any (is_text t) (remove_key (is_text t) ks)) e) ∙ h))

  others : (k : K) (ks : List K) → AllByRecursion (λ y. same k y ≡ false) ks → AllByRecursion (λ t. pointwise nat_eq (text k) t ≡ false) (map text ks)
  others k [] h = h
  others k (y ∷ ks) h = (h.0, others k ks h.1)

  -- keys of which no two are the same are texts of which none is there twice
  pub once : (ks : List K) → IsDistinct same ks → AreOnce (map text ks)
  unfolding IsDistinct
  once [] h = h
  once (k ∷ ks) h = (others k ks h.0, once ks h.1)

module _ {K V W : Type 0} (text : K → List ℕ) (value : V → W) where
  abbrev pub seen : K × V → List ℕ × W
  seen e = (text e.0, value e.1)

  -- the value that is found is that of the list
  pub found : (es : List (K × V)) (name : List ℕ) → option_map value (lookup (is_text text name) es) ≡ value_of (map seen es) name
  found [] name = refl
  found (e ∷ es) name =
      elim (is_text text name e.0) as (λ b. option_map value (cond b (Some e.1) (lookup (is_text text name) es)) ≡ cond b (Some (value e.1)) (value_of (map seen es) name))
      [ true ↦ refl | false ↦ found es name ]

  -- and what is borrowed of it
  pub borrowed : (es : List (K × V)) (name : List ℕ) (o : Option (Bor V)) → option_copied o ≡ lookup (is_text text name) es → option_map (λ v. value v.now) o ≡ value_of (map seen es) name
  borrowed es name None h = ap (option_map value) h ∙ found es name
  borrowed es name (Some v) h = ap (option_map value) h ∙ found es name

  -- and what a function makes of what is borrowed of it
  pub made_of : {P : Bor V → Bor W → Type 0} (es : List (K × V)) (name : List ℕ) (o : Option (Bor V)) (r : Option (Bor W)) → ((x : Bor V) (y : Bor W) → P x y → y.now ≡ value x.now)
      → option_copied o ≡ lookup (is_text text name) es → MatchOption o (r ≡ None) (λ x. IsSomeAnd r (P x)) → option_map (λ y. y.now) r ≡ value_of (map seen es) name
  made_of es name None None means h m = borrowed es name None h
  made_of es name None (Some y) means h m = cc
  made_of es name (Some x) None means h m = absurd m
  made_of es name (Some x) (Some y) means h m = ap Some (means x y m) ∙ borrowed es name (Some x) h

  -- a name is found exactly if the list has it
  pub has : (es : List (K × V)) (name : List ℕ) → is_some (lookup (is_text text name) es) ≡ named (map seen es) name
  has [] name = refl
  has (e ∷ es) name =
      elim (is_text text name e.0) as (λ b. is_some (cond b (Some e.1) (lookup (is_text text name) es)) ≡ (b || named (map seen es) name))
      [ true ↦ refl | false ↦ has es name ]

  -- inserting an entry sets its name to its value
  pub set : (es : List (K × V)) (k : K) (v : V) → map seen (insert_entry (same text) es k v) ≡ with_value (map seen es) (text k) (value v)
  set [] k v = refl
  set (e ∷ es) k v =
      elim (same text k e.0) as (λ b. map seen (cond b ((e.0, v) ∷ es) (e ∷ insert_entry (same text) es k v)) ≡ cond b ((text e.0, value v) ∷ map seen es) (seen e ∷ with_value (map seen es) (text k) (value v)))
      [ true ↦ refl | false ↦ ap (λ ps. seen e ∷ ps) (set es k v) ]

  no_other_name : (es : List (K × V)) (name : List ℕ) → lookup (is_text text name) es ≡ None → map seen es ≡ without_name (map seen es) name
  no_other_name [] name h = refl
  no_other_name (e ∷ es) name h = by (is_text text name e.0) h (no_other_name es name)
    where
      by : (b : Bool) → cond b (Some e.1) (lookup (is_text text name) es) ≡ None → (lookup (is_text text name) es ≡ None → map seen es ≡ without_name (map seen es) name) → seen e ∷ map seen es ≡ cond (not b) (seen e ∷ without_name (map seen es) name) (without_name (map seen es) name)
      by true h more = cc
      by false h more = ap (λ ps. seen e ∷ ps) (more h)

  -- a name that is removed, and is not found any more, was there once
  pub removed_name : (es : List (K × V)) (name : List ℕ) → lookup (is_text text name) (remove_entry (is_text text name) es) ≡ None → map seen (remove_entry (is_text text name) es) ≡ without_name (map seen es) name
  removed_name [] name h = refl
  removed_name (e ∷ es) name h = by (is_text text name e.0) refl h (no_other_name es name) (removed_name es name)
    where
      by : (b : Bool) → is_text text name e.0 ≡ b → lookup (is_text text name) (cond b es (e ∷ remove_entry (is_text text name) es)) ≡ None
          → (lookup (is_text text name) es ≡ None → map seen es ≡ without_name (map seen es) name)
          → (lookup (is_text text name) (remove_entry (is_text text name) es) ≡ None → map seen (remove_entry (is_text text name) es) ≡ without_name (map seen es) name)
          → map seen (cond b es (e ∷ remove_entry (is_text text name) es)) ≡ cond (not b) (seen e ∷ without_name (map seen es) name) (without_name (map seen es) name)
      by true e h none more = none h
      by false f h none more = ap (λ ps. seen e ∷ ps) (more (sym (ap (λ b. cond b (Some e.1) (lookup (is_text text name) (remove_entry (is_text text name) es))) f) ∙ h))

  names_are : (es : List (K × V)) → names (map seen es) ≡ map text (keys_of es)
  names_are [] = refl
  names_are (e ∷ es) = ap (λ ts. text e.0 ∷ ts) (names_are es)

  -- keys of which no two are the same are names of which none is there twice
  pub names_once : (es : List (K × V)) → IsDistinct (same text) (keys_of es) → AreOnce (names (map seen es))
  names_once es h = rw (names_are es) (once text (keys_of es) h)

-- a name is new exactly if no value was found
pub new_is : {V : Type 0} (before : Option V) (r has : Bool) → is_some before ≡ not r → is_some before ≡ has → r ≡ not has
new_is None true has h e = ap not e
new_is None false has h e = cc
new_is (Some x) true has h e = cc
new_is (Some x) false has h e = ap not e
