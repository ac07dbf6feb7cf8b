-- Files that are put together by the folders of devices: each comes to the folders that it is below.
use Rattle.std.proofs.Common.{◌≡◌, ◌⊎◌, inl, inr, ℕ, ◌+◌, ◌-◌, ◌<◌, ◌≤◌, ◌&&◌, ◌||◌, nat_eq, nat_lt, Bool, true, false, cond, List, [], ◌∷◌, ◌++◌, filter_map, get_or, length, map, min, take, drop, Option, Some, None, option_map, Bor, Vec, refl, sym, ap, subst, ◌∙◌, true≢false, arith, append_assoc, append-nil, length-take-le, le_of_lt, drop_of_length-le, ltb-false, ltb-true, lt-ltb, le-ltb}
use Rattle.std.proofs.Math.Nat.{le-min}
use Rattle.std.proofs.lemmas.List.{get_or_past}
use Rattle.std.specs.Cmp.Lexicographic.{bytes_decides}
use Rattle.std.specs.List.{ends_with, starts_with}
use Rattle.std.specs.Map.{lookup, set_value}
use Rattle.indexmap.specs.IndexMap.{insert_entry}
use Rattle.text_bytes.specs.Names.{slash}
use Rattle.text_bytes.specs.Texts.{begins_with}
use Rattle.text_bytes.specs.Text.{Text}
use Rattle.text_tables.specs.Texts.{is_among, same_text}
use Rattle.text_tables.specs.Pairs.{Pair, value_of, with_values}
use Rattle.text_tables.proofs.Found.{value_set}
use Rattle.text_tables.proofs.Held.{found, is_text, same, set}
use Rattle.device_core.specs.Values.{DeviceValue, EventValue, described}
use Rattle.builtin_devices.specs.Files.{described_by, described_devices, file_below, files_below, name_below, subsystem_file}
use Rattle.builtin_devices.specs.Folders.{described_path, described_paths, device_in, file_of, with_file, with_files}

-- ---- what a map has for a folder

abbrev Files : Type 0 → Type 0
Files A = Vec (Bor Text × Bor Text) A

-- the files that entries have for a folder
abbrev held : {A : Type 0} → List (Bor Text × Files A) → Text → Option (List Pair)
held es folder = value_of (map (λ e. (e.0.now, map file_of e.1.items)) es) folder

module _ {A : Type 0} where
  -- a folder that is put in has its files
  pub put_in : (es : List (Bor Text × Files A)) (k : Bor Text) (v : Files A) (folder : Text)
      → held (insert_entry (same (λ (t : Bor Text). t.now)) es k v) folder ≡ cond (same_text folder k.now) (Some (map file_of v.items)) (held es folder)
  put_in es k v folder =
      ap (λ ps. value_of ps folder) (set (λ (t : Bor Text). t.now) (λ (v : Files A). map file_of v.items) es k v)
      ∙ value_set (map (λ e. (e.0.now, map file_of e.1.items)) es) k.now (map file_of v.items) folder

  -- what is found is what the map has
  pub own_files : (es : List (Bor Text × Files A)) (folder : Text) → option_map (λ (v : Files A). map file_of v.items) (lookup (is_text (λ (t : Bor Text). t.now) folder) es) ≡ held es folder
  own_files es folder = found (λ (t : Bor Text). t.now) (λ (v : Files A). map file_of v.items) es folder

  -- a write changes the files of one folder
  written : (es : List (Bor Text × Files A)) (t : Text) (w : Files A) (folder : Text)
      → held (set_value (is_text (λ (k : Bor Text). k.now) t) es w) folder ≡ cond (same_text folder t) (option_map (λ files. map file_of w.items) (held es folder)) (held es folder)
  written [] t w folder = elim (same_text folder t) as (λ (b : Bool). None ≡ cond {A = Option (List Pair)} b None None) [ true ↦ refl | false ↦ refl ]
  written (e ∷ es) t w folder = by (same_text t e.0.now) refl (written es t w folder)
    where
      own : List Pair
      own = map file_of e.1.items

      new : List Pair
      new = map file_of w.items

      here : (b : Bool) (o : Option (List Pair)) → cond b (Some new) o ≡ cond b (option_map (λ files. new) (cond b (Some own) o)) (cond b (Some own) o)
      here true o = refl
      here false o = refl

      there : (b d : Bool) (o r : Option (List Pair)) → (b ≡ true → d ≡ true → ⊥) → r ≡ cond d (option_map (λ files. new) o) o
          → cond b (Some own) r ≡ cond d (option_map (λ files. new) (cond b (Some own) o)) (cond b (Some own) o)
      there true true o r apart h = absurd (apart refl refl)
      there true false o r apart h = refl
      there false d o r apart h = h

      by : (b : Bool) → same_text t e.0.now ≡ b
          → held (set_value (is_text (λ (k : Bor Text). k.now) t) es w) folder ≡ cond (same_text folder t) (option_map (λ files. new) (held es folder)) (held es folder)
          → held (cond b ((e.0, w) ∷ es) (e ∷ set_value (is_text (λ (k : Bor Text). k.now) t) es w)) folder
          ≡ cond (same_text folder t) (option_map (λ files. new) (cond (same_text folder e.0.now) (Some own) (held es folder))) (cond (same_text folder e.0.now) (Some own) (held es folder))
      by true e_is more =
          let one : t ≡ e.0.now = (bytes_decides t e.0.now).0 e_is in
          here (same_text folder e.0.now) (held es folder)
          ∙ ap (λ (b : Bool). cond b (option_map (λ files. new) (cond (same_text folder e.0.now) (Some own) (held es folder))) (cond (same_text folder e.0.now) (Some own) (held es folder))) (ap (same_text folder) (sym one))
      by false e_is more =
          there (same_text folder e.0.now) (same_text folder t) (held es folder) _
          (λ f g. true≢false (sym ((bytes_decides t e.0.now).1 (sym ((bytes_decides folder t).0 g) ∙ (bytes_decides folder e.0.now).0 f)) ∙ e_is)) more

  module _ (es : List (Bor Text × Files A)) (t : Text) (file : Pair) where
    -- a file is added to a folder that is there
    pub added : (old w : Files A) (new : List (Bor Text × Files A)) → new ≡ set_value (is_text (λ (k : Bor Text). k.now) t) es w → lookup (is_text (λ (k : Bor Text). k.now) t) es ≡ Some old
        → map file_of w.items ≡ map file_of old.items ++ file ∷ [] → (folder : Text) → held new folder ≡ cond (same_text folder t) (with_file file (held es folder)) (held es folder)
    added old w new new_is old_is w_is folder = ap (λ ps. held ps folder) new_is ∙ written es t w folder ∙ by (same_text folder t) refl
      where
        by : (b : Bool) → same_text folder t ≡ b → cond b (option_map (λ files. map file_of w.items) (held es folder)) (held es folder) ≡ cond b (with_file file (held es folder)) (held es folder)
        by true e =
            let its : held es folder ≡ Some (map file_of old.items) = ap (held es) ((bytes_decides folder t).0 e) ∙ sym (own_files es t) ∙ ap (option_map (λ (v : Files A). map file_of v.items)) old_is in
            rw (its, w_is) refl
        by false e = refl

    -- a folder that is not there stays away
    pub not_added : lookup (is_text (λ (k : Bor Text). k.now) t) es ≡ None → (folder : Text) → held es folder ≡ cond (same_text folder t) (with_file file (held es folder)) (held es folder)
    not_added none folder = by (same_text folder t) refl
      where
        by : (b : Bool) → same_text folder t ≡ b → held es folder ≡ cond b (with_file file (held es folder)) (held es folder)
        by true e =
            let its : held es folder ≡ None = ap (held es) ((bytes_decides folder t).0 e) ∙ sym (own_files es t) ∙ ap (option_map (λ (v : Files A). map file_of v.items)) none in
            rw its refl
        by false e = refl

-- ---- the folders of the devices

-- something that is there or still to come, once one more came
one_less : {Old New : Type 0} (here later : Bool) → (here ≡ true → New) → (here ≡ false → Old → New) → Old ⊎ ((here || later) ≡ true) → New ⊎ (later ≡ true)
one_less true later comes stays h = inl (comes refl)
one_less false later comes stays (inl old) = inl (stays refl old)
one_less false later comes stays (inr among) = inr among

-- a folder that is put in without files is there, and the others are as they were
pub folder_put : {A : Type 0} (es new : List (Bor Text × Files A)) (items next : List (Bor Text × Bor Text)) (file : Bor Text × Bor Text) (k : Bor Text) (v : Files A) (folder : Text)
    → items ≡ file ∷ next → described_path file.0.now ≡ Some k.now → new ≡ insert_entry (same (λ (t : Bor Text). t.now)) es k v → v.items ≡ []
    → (held es folder ≡ Some []) ⊎ (is_among (described_paths (map file_of items)) folder ≡ true)
    → (held new folder ≡ Some []) ⊎ (is_among (described_paths (map file_of next)) folder ≡ true)
folder_put es new items next file k v folder items_are its new_is empty h =
    let own : held new folder ≡ cond (same_text folder k.now) (Some (map file_of v.items)) (held es folder) = ap (λ ps. held ps folder) new_is ∙ put_in es k v folder in
    let them : described_paths (map file_of items) ≡ k.now ∷ described_paths (map file_of next) = ap (λ fs. described_paths (map file_of fs)) items_are ∙ (rw its refl) in
    one_less (same_text folder k.now) _
    (λ e. own ∙ ap (λ (b : Bool). cond b (Some (map file_of v.items)) (held es folder)) e ∙ ap (λ fs. Some (map file_of fs)) empty)
    (λ e old. own ∙ ap (λ (b : Bool). cond b (Some (map file_of v.items)) (held es folder)) e ∙ old)
    (subst (λ ts. (held es folder ≡ Some []) ⊎ (is_among ts folder ≡ true)) them h)

-- ---- places

marked_within : (marks : List Bool) (i : ℕ) → get_or marks i false ≡ true → i < length marks
marked_within marks i h = by (nat_lt i (length marks)) refl
  where
    by : (b : Bool) → nat_lt i (length marks) ≡ b → i < length marks
    by true e = ltb-true i (length marks) e
    by false e = absurd (true≢false (sym h ∙ get_or_past marks i false (ltb-false i (length marks) e)))

-- a marked place after those of a path up to the last mark is after all of the path
pub all_looked_at : (marks : List Bool) (path : Text) (i last place : ℕ) → last ≡ min (length path) (length marks) → last ≤ i → get_or marks place false ≡ true → i ≤ place → length path ≤ place
all_looked_at marks path i last place is l marked high = by (nat_lt place (length path)) refl
  where
    by : (b : Bool) → nat_lt place (length path) ≡ b → length path ≤ place
    by false e = ltb-false place (length path) e
    by true e =
        let before = ltb-true place (length path) e in
        let within = marked_within marks place marked in
        let one : place + 1 ≤ length path = omega (arith, before) in
        let two : place + 1 ≤ length marks = omega (arith, within) in
        let low : place + 1 ≤ min (length path) (length marks) = le-min one two in
        absurd (omega (arith, low, is, l, high))

-- ---- one file

module _ (folder path text : Text) where
  abbrev file : Pair
  file = (path, text)

  -- a file that is not below a folder is not added to it
  same_files : (start : Option (List Pair)) → name_below folder path ≡ None → with_files folder (file ∷ []) start ≡ start
  same_files None none = refl
  same_files (Some files) none = rw none (ap Some (append-nil files))

  begun : (i : ℕ) → length folder ≡ i → starts_with nat_eq path folder ≡ same_text folder (take i path)
  begun i e = ap (λ (n : ℕ). same_text folder (take n path)) e

  -- another path is as long
  other_path : (i : ℕ) → length folder ≡ i → same_text folder (take i path) ≡ false → name_below folder path ≡ None
  unfolding name_below
  other_path i e other = rw (begun i e ∙ other) refl

  no_slash : (b : Bool) (following : Text) → begins_with slash following ≡ false → cond (b && begins_with slash following) (Some (drop 1 following)) None ≡ None
  no_slash true following h = rw h refl
  no_slash false following h = refl

  -- no slash follows
  pub no_cut : (i : ℕ) → begins_with slash (drop i path) ≡ false → length folder ≡ i → name_below folder path ≡ None
  unfolding name_below
  no_cut i h e = no_slash (starts_with nat_eq path folder) (drop (length folder) path) (ap (λ (n : ℕ). begins_with slash (drop n path)) e ∙ h)

  -- the path and a slash begin the file's
  cut : (i : ℕ) → length folder ≡ i → same_text folder (take i path) ≡ true → begins_with slash (drop i path) ≡ true → name_below folder path ≡ Some (drop 1 (drop i path))
  unfolding name_below
  cut i e same slashed = rw (begun i e ∙ same, e, slashed) refl

  -- the files that a folder has once the places before one are looked at
  abbrev after : Option (List Pair) → ℕ → Option (List Pair)
  after start i = cond (nat_lt (length folder) i) (with_files folder (file ∷ []) start) start

  -- a place at which nothing is added
  pub passed : (start old : Option (List Pair)) (i : ℕ) → (length folder ≡ i → name_below folder path ≡ None) → old ≡ after start i → old ≡ after start (i + 1)
  passed start old i none h = by (nat_lt (length folder) i) (nat_lt (length folder) (i + 1)) refl refl
    where
      by : (a b : Bool) → nat_lt (length folder) i ≡ a → nat_lt (length folder) (i + 1) ≡ b → old ≡ after start (i + 1)
      by true true e f = h ∙ ap (λ (b : Bool). cond b (with_files folder (file ∷ []) start) start) (e ∙ sym f)
      by false false e f = h ∙ ap (λ (b : Bool). cond b (with_files folder (file ∷ []) start) start) (e ∙ sym f)
      by true false e f =
          let low = ltb-true (length folder) i e in
          let high = ltb-false (length folder) (i + 1) f in
          absurd (omega (arith, low, high))
      by false true e f =
          let high = ltb-false (length folder) i e in
          let low = ltb-true (length folder) (i + 1) f in
          let here : length folder ≡ i = omega (arith, low, high) in
          h ∙ ap (λ (b : Bool). cond b (with_files folder (file ∷ []) start) start) e
          ∙ sym (ap (λ (b : Bool). cond b (with_files folder (file ∷ []) start) start) f ∙ same_files start (none here))

  taken_at : (start old new : Option (List Pair)) (i : ℕ) → i < length path → begins_with slash (drop i path) ≡ true
      → new ≡ cond (same_text folder (take i path)) (with_file (drop 1 (drop i path), text) old) old → old ≡ after start i → new ≡ after start (i + 1)
  taken_at start old new i l slashed new_is h = by (same_text folder (take i path)) refl
    where
      by : (b : Bool) → same_text folder (take i path) ≡ b → new ≡ after start (i + 1)
      by false e = new_is ∙ ap (λ (b : Bool). cond b (with_file (drop 1 (drop i path), text) old) old) e ∙ passed start old i (λ here. other_path i here e) h
      by true e =
          let here : length folder ≡ i = ap length ((bytes_decides folder (take i path)).0 e) ∙ length-take-le i path (le_of_lt l) in
          let before : old ≡ start = h ∙ ap (λ (b : Bool). cond b (with_files folder (file ∷ []) start) start) (le-ltb (length folder) i (omega (arith, here))) in
          let its : with_files folder (file ∷ []) start ≡ with_file (drop 1 (drop i path), text) start = rw (cut i here e slashed) refl in
          new_is ∙ ap (λ (b : Bool). cond b (with_file (drop 1 (drop i path), text) old) old) e
          ∙ ap (with_file (drop 1 (drop i path), text)) before
          ∙ sym (ap (λ (b : Bool). cond b (with_files folder (file ∷ []) start) start) (lt-ltb (length folder) (i + 1) (omega (arith, here))) ∙ its)

  -- a place at which the file is added to the folder that ends there
  pub taken : (start old new : Option (List Pair)) (i : ℕ) (front following name : Text) → i < length path → front ≡ take i path → following ≡ drop i path → name ≡ drop 1 following
      → begins_with slash following ≡ true → new ≡ cond (same_text folder front) (with_file (name, text) old) old → old ≡ after start i → new ≡ after start (i + 1)
  taken start old new i front following name l front_is following_is name_is slashed new_is h =
      taken_at start old new i l (ap (begins_with slash) (sym following_is) ∙ slashed)
      (new_is
      ∙ ap (λ (t : Text). cond (same_text folder t) (with_file (name, text) old) old) front_is
      ∙ ap (λ (t : Text). cond (same_text folder (take i path)) (with_file (t, text) old) old) (name_is ∙ ap (drop 1) following_is))
      h

  none_follows : (n : ℕ) → length path ≤ n → begins_with slash (drop n path) ≡ false
  none_follows n h = ap (begins_with slash) (drop_of_length-le path h)

  -- all places are looked at at which the folder may end
  pub ended : (start old : Option (List Pair)) (i : ℕ) → (i ≤ length folder → length path ≤ length folder) → old ≡ after start i → old ≡ with_files folder (file ∷ []) start
  ended start old i l h = by (nat_lt (length folder) i) refl
    where
      by : (b : Bool) → nat_lt (length folder) i ≡ b → old ≡ with_files folder (file ∷ []) start
      by true e = h ∙ ap (λ (b : Bool). cond b (with_files folder (file ∷ []) start) start) e
      by false e =
          h ∙ ap (λ (b : Bool). cond b (with_files folder (file ∷ []) start) start) e
          ∙ sym (same_files start (no_cut (length folder) (none_follows (length folder) (l (ltb-false (length folder) i e))) refl))

-- ---- all files

-- a file, and then those after it
pub one_file : (folder : Text) (file : Pair) (more : List Pair) (start : Option (List Pair))
    → with_files folder more (with_files folder (file ∷ []) start) ≡ with_files folder (file ∷ more) start
one_file folder file more None = refl
one_file folder file more (Some files) = by (file_below folder file) refl
  where
    by : (o : Option Pair) → file_below folder file ≡ o → with_files folder more (with_files folder (file ∷ []) (Some files)) ≡ with_files folder (file ∷ more) (Some files)
    by None e = rw e (ap (λ (fs : List Pair). Some (fs ++ filter_map (file_below folder) more)) (append-nil files))
    by (Some own) e = rw e (ap Some (append_assoc files (own ∷ []) (filter_map (file_below folder) more)))

-- ---- the devices

module _ (files : Text → Option (List Pair)) (path text folder : Text) (its : described_path path ≡ Some folder) where
  -- no files are known for the folder
  pub no_device : files folder ≡ None → None ≡ device_in files (path, text)
  no_device none = rw its (rw none refl)

  pub one_device : (own : List Pair) (d : DeviceValue) → files folder ≡ Some own → d ≡ described folder text (with_values [] own) → Some d ≡ device_in files (path, text)
  one_device own d own_is d_is = rw its (rw own_is (ap Some d_is))

module _ (event : EventValue) (files : Text → Option (List Pair)) where
  abbrev There : List Pair → Type 0
  There more = (folder : Text) → is_among (described_paths more) folder ≡ true → files folder ≡ Some (files_below event folder)

  later : (s m : Bool) → m ≡ true → (s || m) ≡ true
  later true m h = refl
  later false m h = h

  each_described : (more : List Pair) → There more → filter_map (device_in files) more ≡ filter_map (described_by event) more
  each_described [] there = refl
  each_described (first ∷ more) there = by (ends_with nat_eq first.0 subsystem_file) refl (each_described more)
    where
      own : Text
      own = take (length first.0 - length subsystem_file) first.0

      by : (b : Bool) → ends_with nat_eq first.0 subsystem_file ≡ b → (There more → filter_map (device_in files) more ≡ filter_map (described_by event) more)
          → filter_map (device_in files) (first ∷ more) ≡ filter_map (described_by event) (first ∷ more)
      by false e rest = rw e (rest (λ folder among. there folder (rw e among)))
      by true e rest =
          let own_is : files own ≡ Some (files_below event own) = there own (rw (e, (bytes_decides own own).1 refl) refl) in
          let others = rest (λ folder among. there folder (rw e (later (same_text folder own) _ among))) in
          rw (e, own_is) (ap (λ ds. described own first.1 (with_values [] (files_below event own)) ∷ ds) others)

-- where each described device's files are known, the devices are those that the block describes
pub all_described : (event : EventValue) (files : Text → Option (List Pair))
    → ((folder : Text) → is_among (described_paths event.constants) folder ≡ true → files folder ≡ Some (files_below event folder))
    → filter_map (device_in files) event.constants ≡ described_devices event
unfolding described_devices
all_described event files there = each_described event files event.constants there

no_devices : (files : List Pair) → filter_map (device_in (λ folder. None)) files ≡ []
no_devices [] = refl
no_devices (first ∷ files) = by (described_path first.0) refl (no_devices files)
  where
    by : (o : Option Text) → described_path first.0 ≡ o → filter_map (device_in (λ folder. None)) files ≡ [] → filter_map (device_in (λ folder. None)) (first ∷ files) ≡ []
    by None e rest = rw e rest
    by (Some folder) e rest = rw e rest

-- where no length is marked, the block describes no device
pub none_described : (event : EventValue) (lengths : List Bool) → length lengths ≡ 0 → ((folder : Text) → is_among (described_paths event.constants) folder ≡ true → get_or lengths (length folder) false ≡ true)
    → [] ≡ described_devices event
none_described event [] empty marked = sym (no_devices event.constants) ∙ all_described event (λ folder. None) (λ folder among. absurd (true≢false (sym (marked folder among))))
none_described event (mark ∷ lengths) empty marked = absurd (omega (arith, empty))
