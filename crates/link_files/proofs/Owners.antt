-- Drop-ins that are put together by the names of the files that they are for.
use Rattle.std.proofs.Common.{◌≡◌, ℕ, ◌+◌, ◌<◌, ◌≤◌, ◌&&◌, nat_lt, not, codes, Bool, true, false, true≢false, cond, List, [], ◌∷◌, ◌++◌, length, map, take, drop, Option, Some, None, option_copied, option_map, unwrap_or, Bor, Vec, refl, sym, ap, ◌∙◌, arith, append-nil, length-take-le, le_of_lt, drop_of_length-le, ltb-false, ltb-true, lt-ltb, le-ltb}
use Rattle.std.specs.Cmp.Lexicographic.{bytes_decides}
use Rattle.std.specs.Map.{lookup, set_value}
use Rattle.std.specs.Option.{option_map_or}
use Rattle.std.specs.Prelude.{option_and_then}
use Rattle.indexmap.specs.IndexMap.{insert_entry}
use Rattle.text_bytes.specs.Names.{dot}
use Rattle.text_bytes.specs.Text.{Text}
use Rattle.text_bytes.specs.Texts.{begins_with, following}
use Rattle.text_bytes.specs.declared.source_file.SourceFile.{SourceFile}
use Rattle.text_tables.specs.Texts.{same_text}
use Rattle.text_tables.specs.Pairs.{value_of}
use Rattle.text_tables.proofs.Found.{value_set}
use Rattle.text_tables.proofs.Held.{borrowed, found, is_text, same, set}
use Rattle.link_files.specs.DropIns.{is_drop_in_name, is_for}

-- the files that are borrowed
abbrev files_in : {A : Type 0} → Vec (Bor SourceFile) A → List SourceFile
files_in v = map (λ f. f.now) v.items

-- the drop-ins that entries have for a name
abbrev held : {A : Type 0} → List (Bor Text × Vec (Bor SourceFile) A) → Text → Option (List SourceFile)
held es name = value_of (map (λ e. (e.0.now, files_in e.1)) es) name

-- the drop-ins of one name
abbrev Owned : Type 0 → Type 0
Owned A = Vec (Bor SourceFile) A

module _ {A : Type 0} where
  -- what is found is what the map has
  pub own_found : (es : List (Bor Text × Owned A)) (name : Text) → option_map (λ (v : Owned A). files_in v) (lookup (is_text (λ (t : Bor Text). t.now) name) es) ≡ held es name
  own_found es name = found (λ (t : Bor Text). t.now) (λ (v : Owned A). files_in v) es name

  -- the files that are taken, if none are taken where the map has no name
  pub own_taken : (es : List (Bor Text × Owned A)) (name : Text) (o : Option (Bor (Owned A))) (none : Bor (Owned A)) → none.now.items ≡ [] → option_copied o ≡ lookup (is_text (λ (t : Bor Text). t.now) name) es
      → files_in (unwrap_or o none).now ≡ unwrap_or (held es name) []
  own_taken es name None none empty h = ap (map (λ f. f.now)) empty ∙ ap (λ files. unwrap_or files []) (borrowed (λ (t : Bor Text). t.now) (λ (v : Owned A). files_in v) es name None h)
  own_taken es name (Some v) none empty h = ap (λ files. unwrap_or files []) (borrowed (λ (t : Bor Text). t.now) (λ (v : Owned A). files_in v) es name (Some v) h)

  -- a name that is put in has its files
  put_in : (es : List (Bor Text × Owned A)) (k : Bor Text) (v : Owned A) (name : Text)
      → held (insert_entry (same (λ (t : Bor Text). t.now)) es k v) name ≡ cond (same_text name k.now) (Some (files_in v)) (held es name)
  put_in es k v name =
      ap (λ ps. value_of ps name) (set (λ (t : Bor Text). t.now) (λ (v : Owned A). files_in v) es k v)
      ∙ value_set (map (λ e. (e.0.now, files_in e.1)) es) k.now (files_in v) name

  -- a write changes the files of one name
  written : (es : List (Bor Text × Owned A)) (t : Text) (w : Owned A) (name : Text)
      → held (set_value (is_text (λ (k : Bor Text). k.now) t) es w) name ≡ cond (same_text name t) (option_map (λ files. files_in w) (held es name)) (held es name)
  written [] t w name = elim (same_text name t) as (λ (b : Bool). None ≡ cond {A = Option (List SourceFile)} b None None) [ true ↦ refl | false ↦ refl ]
  written (e ∷ es) t w name = by (same_text t e.0.now) refl (written es t w name)
    where
      own : List SourceFile
      own = files_in e.1

      new : List SourceFile
      new = files_in w

      here : (b : Bool) (o : Option (List SourceFile)) → cond b (Some new) o ≡ cond b (option_map (λ files. new) (cond b (Some own) o)) (cond b (Some own) o)
      here true o = refl
      here false o = refl

      there : (b d : Bool) (o r : Option (List SourceFile)) → (b ≡ true → d ≡ true → ⊥) → r ≡ cond d (option_map (λ files. new) o) o
          → cond b (Some own) r ≡ cond d (option_map (λ files. new) (cond b (Some own) o)) (cond b (Some own) o)
      there true true o r apart h = absurd (apart refl refl)
      there true false o r apart h = refl
      there false d o r apart h = h

      by : (b : Bool) → same_text t e.0.now ≡ b
          → held (set_value (is_text (λ (k : Bor Text). k.now) t) es w) name ≡ cond (same_text name t) (option_map (λ files. new) (held es name)) (held es name)
          → held (cond b ((e.0, w) ∷ es) (e ∷ set_value (is_text (λ (k : Bor Text). k.now) t) es w)) name
          ≡ cond (same_text name t) (option_map (λ files. new) (cond (same_text name e.0.now) (Some own) (held es name))) (cond (same_text name e.0.now) (Some own) (held es name))
      by true e_is more =
          let one : t ≡ e.0.now = (bytes_decides t e.0.now).0 e_is in
          here (same_text name e.0.now) (held es name)
          ∙ ap (λ (b : Bool). cond b (option_map (λ files. new) (cond (same_text name e.0.now) (Some own) (held es name))) (cond (same_text name e.0.now) (Some own) (held es name))) (ap (same_text name) (sym one))
      by false e_is more =
          there (same_text name e.0.now) (same_text name t) (held es name) _
          (λ f g. true≢false (sym ((bytes_decides t e.0.now).1 (sym ((bytes_decides name t).0 g) ∙ (bytes_decides name e.0.now).0 f)) ∙ e_is)) more

  module _ (es : List (Bor Text × Owned A)) (t : Text) (file : SourceFile) (name : Text) where
    -- what a name has after a file was added to another
    abbrev One : Option (List SourceFile) → Type 0
    One new = unwrap_or new [] ≡ unwrap_or (held es name) [] ++ cond (same_text name t) (file ∷ []) []

    -- a file is added to a name that is there
    pub added : (old w : Owned A) (new : List (Bor Text × Owned A)) → new ≡ set_value (is_text (λ (k : Bor Text). k.now) t) es w → lookup (is_text (λ (k : Bor Text). k.now) t) es ≡ Some old
        → files_in w ≡ files_in old ++ file ∷ [] → One (held new name)
    added old w new new_is old_is w_is = ap (λ ps. unwrap_or (held ps name) []) new_is ∙ ap (λ o. unwrap_or o []) (written es t w name) ∙ by (same_text name t) refl
      where
        by : (b : Bool) → same_text name t ≡ b → unwrap_or (cond b (option_map (λ files. files_in w) (held es name)) (held es name)) [] ≡ unwrap_or (held es name) [] ++ cond b (file ∷ []) []
        by true e =
            let its : held es name ≡ Some (files_in old) = ap (held es) ((bytes_decides name t).0 e) ∙ sym (own_found es t) ∙ ap (option_map (λ (v : Owned A). files_in v)) old_is in
            rw (its, w_is) refl
        by false e = sym (append-nil (unwrap_or (held es name) []))

    -- a name that is not there is put in with the file
    pub first_added : (k : Bor Text) (v : Owned A) (new : List (Bor Text × Owned A)) → k.now ≡ t → new ≡ insert_entry (same (λ (x : Bor Text). x.now)) es k v → lookup (is_text (λ (x : Bor Text). x.now) t) es ≡ None
        → files_in v ≡ file ∷ [] → One (held new name)
    first_added k v new k_is new_is none v_is =
        ap (λ ps. unwrap_or (held ps name) []) new_is ∙ ap (λ o. unwrap_or o []) (put_in es k v name)
        ∙ ap (λ x. unwrap_or (cond (same_text name x) (Some (files_in v)) (held es name)) []) k_is ∙ by (same_text name t) refl
      where
        by : (b : Bool) → same_text name t ≡ b → unwrap_or (cond b (Some (files_in v)) (held es name)) [] ≡ unwrap_or (held es name) [] ++ cond b (file ∷ []) []
        by true e =
            let its : held es name ≡ None = ap (held es) ((bytes_decides name t).0 e) ∙ sym (own_found es t) ∙ ap (option_map (λ (v : Owned A). files_in v)) none in
            rw (its, v_is) refl
        by false e = sym (append-nil (unwrap_or (held es name) []))

-- ---- one file

module _ (name : Text) (file : SourceFile) where
  -- the file, once the places before one are looked at
  abbrev pub so_far : ℕ → List SourceFile
  so_far i = cond (nat_lt (length name) i && is_for name file) (file ∷ []) []

  by_parts : (b : Bool) (rest : Text) → option_map_or (λ n. not (begins_with dot n)) (option_and_then (following (codes ".d/")) (cond b (Some rest) None)) false ≡ (b && is_drop_in_name rest)
  by_parts true rest = refl
  by_parts false rest = refl

  for_at : (i : ℕ) → length name ≡ i → is_for name file ≡ (same_text (take i file.name) name && is_drop_in_name (drop i file.name))
  for_at i e =
      by_parts (same_text (take (length name) file.name) name) (drop (length name) file.name)
      ∙ ap (λ (n : ℕ). same_text (take n file.name) name && is_drop_in_name (drop n file.name)) e

  -- a place at which nothing is added
  passed : (i : ℕ) → (length name ≡ i → is_for name file ≡ false) → so_far (i + 1) ≡ so_far i
  passed i none = by (nat_lt (length name) i) (nat_lt (length name) (i + 1)) refl refl
    where
      by : (a b : Bool) → nat_lt (length name) i ≡ a → nat_lt (length name) (i + 1) ≡ b → so_far (i + 1) ≡ so_far i
      by true true e f = ap (λ (x : Bool). cond (x && is_for name file) (file ∷ []) []) (f ∙ sym e)
      by false false e f = ap (λ (x : Bool). cond (x && is_for name file) (file ∷ []) []) (f ∙ sym e)
      by true false e f =
          let low = ltb-true (length name) i e in
          let high = ltb-false (length name) (i + 1) f in
          absurd (omega (arith, low, high))
      by false true e f =
          let high = ltb-false (length name) i e in
          let low = ltb-true (length name) (i + 1) f in
          let here : length name ≡ i = omega (arith, low, high) in
          ap (λ (x : Bool). cond (x && is_for name file) (file ∷ []) []) f ∙ ap (λ (x : Bool). cond x (file ∷ []) []) (none here)
          ∙ sym (ap (λ (x : Bool). cond (x && is_for name file) (file ∷ []) []) e)

  -- what follows makes it no drop-in
  pub not_taken : (start old : List SourceFile) (i : ℕ) → is_drop_in_name (drop i file.name) ≡ false → old ≡ start ++ so_far i → old ≡ start ++ so_far (i + 1)
  not_taken start old i none h = h ∙ ap (λ more. start ++ more) (sym (passed i (λ e. for_at i e ∙ ap (λ (b : Bool). same_text (take i file.name) name && b) none ∙ and_false (same_text (take i file.name) name))))
    where
      and_false : (b : Bool) → (b && false) ≡ false
      and_false true = refl
      and_false false = refl

  -- a place at which it is added to the name that ends there
  pub taken : (start old new : List SourceFile) (i : ℕ) → i < length file.name → is_drop_in_name (drop i file.name) ≡ true
      → new ≡ old ++ cond (same_text name (take i file.name)) (file ∷ []) [] → old ≡ start ++ so_far i → new ≡ start ++ so_far (i + 1)
  taken start old new i l follows new_is h = by (same_text name (take i file.name)) refl
    where
      by : (b : Bool) → same_text name (take i file.name) ≡ b → new ≡ start ++ so_far (i + 1)
      by true e =
          let same : name ≡ take i file.name = (bytes_decides name (take i file.name)).0 e in
          let here : length name ≡ i = ap length same ∙ length-take-le i file.name (le_of_lt l) in
          let its : is_for name file ≡ true = for_at i here ∙ ap (λ (b : Bool). b && is_drop_in_name (drop i file.name)) ((bytes_decides (take i file.name) name).1 (sym same)) ∙ follows in
          let none : so_far i ≡ [] = ap (λ (b : Bool). cond (b && is_for name file) (file ∷ []) []) (le-ltb (length name) i (omega (arith, here))) in
          let one : so_far (i + 1) ≡ file ∷ [] = ap (λ (b : Bool). cond (b && is_for name file) (file ∷ []) []) (lt-ltb (length name) (i + 1) (omega (arith, here))) ∙ ap (λ (b : Bool). cond b (file ∷ []) []) its in
          new_is ∙ ap (λ (b : Bool). old ++ cond b (file ∷ []) []) e ∙ ap (λ l. l ++ file ∷ []) (h ∙ ap (λ more. start ++ more) none ∙ append-nil start) ∙ sym (ap (λ more. start ++ more) one)
      by false e =
          new_is ∙ ap (λ (b : Bool). old ++ cond b (file ∷ []) []) e ∙ append-nil old ∙ h
          ∙ ap (λ more. start ++ more) (sym (passed i (λ here. for_at i here ∙ ap (λ (b : Bool). b && is_drop_in_name (drop i file.name)) (other e))))
        where
          other : same_text name (take i file.name) ≡ false → same_text (take i file.name) name ≡ false
          other h = turned (same_text (take i file.name) name) refl
            where
              turned : (b : Bool) → same_text (take i file.name) name ≡ b → b ≡ false
              turned true k = sym ((bytes_decides name (take i file.name)).1 (sym ((bytes_decides (take i file.name) name).0 k))) ∙ h
              turned false k = refl

  -- all places are looked at
  pub ended : (start old : List SourceFile) (i : ℕ) → length file.name ≤ i → old ≡ start ++ so_far i → old ≡ start ++ cond (is_for name file) (file ∷ []) []
  ended start old i l h = h ∙ ap (λ more. start ++ more) (by (nat_lt (length name) i) refl)
    where
      by : (b : Bool) → nat_lt (length name) i ≡ b → cond (b && is_for name file) (file ∷ []) [] ≡ cond (is_for name file) (file ∷ []) []
      by true e = refl
      by false e =
          let high : i ≤ length name = ltb-false (length name) i e in
          let past : length file.name ≤ length name = omega (arith, l, high) in
          let rest : is_drop_in_name (drop (length name) file.name) ≡ false = ap is_drop_in_name (drop_of_length-le file.name past) in
          sym (ap (λ (b : Bool). cond b (file ∷ []) []) (for_at (length name) refl ∙ ap (λ (b : Bool). same_text (take (length name) file.name) name && b) rest ∙ and_false (same_text (take (length name) file.name) name)))
        where
          and_false : (b : Bool) → (b && false) ≡ false
          and_false true = refl
          and_false false = refl
