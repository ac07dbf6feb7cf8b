-- Of the files with a name, the one that counts is the one that is read.
use Rattle.std.proofs.Common.{◌≡◌, ℕ, suc, ◌<◌, ◌≤◌, Bool, true, false, not, ◌&&◌, List, [], ◌∷◌, ◌++◌, Contains, Option, Some, None, cond, filter, find, flat_map, fold, length, eqb, ltb, true≢false, refl, ap, sym, subst, ◌∙◌, arith, is_eq, is_lt, MatchBool}
use Rattle.std.specs.List.{AllByRecursion, ends_with}
use Rattle.std.specs.List.Sorted.{IsStableByKey, ties}
use Rattle.std.specs.Option.{option_or}
use Rattle.std.specs.Cmp.Lexicographic.{bytes_decides}
use Rattle.std.specs.Ordering.{ordering_reverse}
use Rattle.std.specs.declared.cmp.Ordering.{Ordering}
use Rattle.std.specs.declared.cmp.Ordering.TheVariants.{Less, Equal, Greater}
use Rattle.std.proofs.lemmas.Bool.{le-ltb}
use Rattle.std.proofs.lemmas.Cmp.{nat_list_cmp_total}
use Rattle.std.proofs.lemmas.List.Elements.{All-contains_itself, filter-append, filter_agree, recursion_from_All}
use Rattle.std.proofs.lemmas.List.Folds.{find-append}
use Rattle.std.proofs.lemmas.Map.Lookups.{exact_bytes}
use Rattle.std.proofs.lemmas.Map.Text.{is_eq-slice_cmp}
use Rattle.text_bytes.specs.FileOrder.{ordered, put, with_suffix}
use Rattle.text_bytes.specs.Insertion.{text_order}
use Rattle.text_bytes.specs.Kinds.{suffix_of}
use Rattle.text_bytes.specs.OrderLaws.{NamesRise}
use Rattle.text_bytes.specs.declared.source_file.FileKind.{FileKind}
use Rattle.text_bytes.specs.declared.source_file.FileKind.TheVariants as kinds
use Rattle.text_bytes.specs.declared.source_file.SourceFile.{SourceFile}
use Rattle.text_bytes.proofs.Placing.{Above, above_further, order, placed, put-rises, rises_after, rises_none}
use Rattle.text_tables.specs.Texts.{same_text}
use Rattle.engine_sessions.specs.Kinds.{same_kind}
use Rattle.devdry_folders.specs.Laws.{AreOneFile, RanksRise, files_of_kind}
use Rattle.devdry_folders.specs.SightStatus.{AreByName, counting, sights_of}
use Rattle.devdry_folders.specs.Unread.{file_of_met, file_of_sight, files_of, files_of_visit, is_file}
use Rattle.devdry_folders.specs.declared.sights.Met.{Met}
use Rattle.devdry_folders.specs.declared.sights.Met.TheVariants as met
use Rattle.devdry_folders.specs.declared.sights.Sight.{Sight}
use Rattle.devdry_folders.specs.declared.sights.Visit.{Visit}

-- ---- names

equal_names : (a b : List ℕ) → same_text a b ≡ true → a ≡ b
equal_names a b h = (bytes_decides a b).0 h

not_below : (a b : List ℕ) → order a b ≡ Less → same_text a b ≡ false
not_below a b l = sym (is_eq-slice_cmp a b) ∙ ap is_eq l

tied : (name : List ℕ) (s : Sight) (x : Sight) → x.name ≡ name → ties (λ (a b : Sight). is_lt (text_order a.name b.name)) x s ≡ same_text name s.name
tied name s x e =
    ap (λ n. not (is_lt (text_order n s.name)) && not (is_lt (text_order s.name n))) e
    ∙ ap (λ o. not (is_lt (text_order name s.name)) && not (is_lt o)) (nat_list_cmp_total.antisymm s.name name)
    ∙ by (text_order name s.name)
    ∙ is_eq-slice_cmp name s.name
  where
    by : (o : Ordering) → (not (is_lt o) && not (is_lt (ordering_reverse o))) ≡ is_eq o
    by Less = refl
    by Equal = refl
    by Greater = refl

-- ---- the first that passes a test

or_none : {X : Type 0} (o : Option X) → option_or o None ≡ o
or_none None = refl
or_none (Some x) = refl

or_assoc : {X : Type 0} (a b c : Option X) → option_or (option_or a b) c ≡ option_or a (option_or b c)
or_assoc None b c = refl
or_assoc (Some x) b c = refl

find_both : {X : Type 0} (p q : X → Bool) (xs : List X) → find (λ x. p x && q x) xs ≡ find p (filter q xs)
find_both p q [] = refl
find_both {X} p q (x ∷ xs) = by (p x) refl (q x) (find_both p q xs)
  where
    by : (b : Bool) → p x ≡ b → (c : Bool) → find (λ x. p x && q x) xs ≡ find p (filter q xs)
        → cond (b && c) (Some x) (find (λ x. p x && q x) xs) ≡ find p (cond c (x ∷ filter q xs) (filter q xs))
    by true e true h = sym (ap (λ t. cond t (Some x) (find p (filter q xs))) e)
    by true e false h = h
    by false e true h = h ∙ sym (ap (λ t. cond t (Some x) (find p (filter q xs))) e)
    by false e false h = h

-- ---- the file with a name that a run reads, where ranks do not fall

abbrev at : List ℕ → List SourceFile → Option SourceFile
at name files = find (λ file. same_text name file.name) files

abbrev Few : ℕ → List SourceFile → Type 0
Few rank files = AllByRecursion (λ file. file.rank ≤ rank) files

abbrev Rising : ℕ → List SourceFile → Type 0
Rising rank [] = Unit {0}
Rising rank (file ∷ files) = (rank ≤ file.rank) × Rising file.rank files

rising_from : (low high : ℕ) (files : List SourceFile) → low ≤ high → Rising high files → Rising low files
rising_from low high [] l h = tt
rising_from low high (file ∷ files) l h = let up : high ≤ file.rank = h.0 in (omega arith, h.1)

few_up : (low high : ℕ) (files : List SourceFile) → low ≤ high → Few low files → Few high files
few_up low high [] l h = tt
few_up low high (file ∷ files) l h = let up : file.rank ≤ low = h.0 in (omega arith, few_up low high files l h.1)

few_put : (rank : ℕ) (xs : List SourceFile) (e : SourceFile) → e.rank ≤ rank → Few rank xs → Few rank (put xs e)
few_put rank [] e l h = (l, tt)
few_put rank (x ∷ xs) e l h = by (order x.name e.name) (few_put rank xs e l h.1)
  where
    winner_few : (b : Bool) → (cond b e x).rank ≤ rank
    winner_few true = l
    winner_few false = h.0

    by : (o : Ordering) → Few rank (put xs e) → Few rank (placed o e x xs (put xs e))
    by Less later = (h.0, later)
    by Equal later = (winner_few (ltb e.rank x.rank), h.1)
    by Greater later = (l, h)

none_at : (name : List ℕ) (xs : List SourceFile) → Above name xs → at name xs ≡ None
none_at name [] h = refl
none_at name (x ∷ xs) h = ap (λ b. cond b (Some x) (at name xs)) (not_below name x.name h.0) ∙ none_at name xs h.1

-- one file more
abbrev alone : List ℕ → SourceFile → Option SourceFile
alone name e = cond (same_text name e.name) (Some e) None

at_put : (name : List ℕ) (xs : List SourceFile) (e : SourceFile) → NamesRise xs → Few e.rank xs → at name (put xs e) ≡ option_or (at name xs) (alone name e)
at_put name [] e r f = refl
at_put name (x ∷ xs) e r f = by (order x.name e.name) refl (at_put name xs e (rises_after x xs r).1 f.1)
  where
    later : (b : Bool) → at name (put xs e) ≡ option_or (at name xs) (alone name e) → cond b (Some x) (at name (put xs e)) ≡ option_or (cond b (Some x) (at name xs)) (alone name e)
    later true h = refl
    later false h = h

    stays : (b : Bool) → same_text name e.name ≡ b → x.name ≡ e.name → at name (x ∷ xs) ≡ option_or (at name (x ∷ xs)) (cond b (Some e) None)
    stays false e_is same = sym (or_none (at name (x ∷ xs)))
    stays true e_is same =
        let here : at name (x ∷ xs) ≡ Some x = ap (λ b. cond b (Some x) (at name xs)) (ap (same_text name) same ∙ e_is) in
        here ∙ sym (ap (λ o. option_or o (Some e)) here)

    comes : (b : Bool) → same_text name e.name ≡ b → order e.name x.name ≡ Less → cond b (Some e) (at name (x ∷ xs)) ≡ option_or (at name (x ∷ xs)) (cond b (Some e) None)
    comes false e_is less = sym (or_none (at name (x ∷ xs)))
    comes true e_is less =
        let above : Above e.name (x ∷ xs) = (less, above_further e.name x.name xs less (rises_after x xs r).0) in
        sym (ap (λ o. option_or o (Some e)) (none_at name (x ∷ xs) (subst (λ n. Above n (x ∷ xs)) (sym (equal_names name e.name e_is)) above)))

    by : (o : Ordering) → order x.name e.name ≡ o → at name (put xs e) ≡ option_or (at name xs) (alone name e) → at name (placed o e x xs (put xs e)) ≡ option_or (at name (x ∷ xs)) (alone name e)
    by Less is h = later (same_text name x.name) h
    by Equal is h =
        ap (λ b. at name (cond b e x ∷ xs)) (le-ltb e.rank x.rank f.0)
        ∙ stays (same_text name e.name) refl (exact_bytes x.name e.name is)
    by Greater is h = comes (same_text name e.name) refl (nat_list_cmp_total.antisymm e.name x.name ∙ ap ordering_reverse is)

at_fold : (name : List ℕ) (xs es : List SourceFile) (rank : ℕ) → NamesRise xs → Few rank xs → Rising rank es → at name (fold put xs es) ≡ option_or (at name xs) (at name es)
at_fold name xs [] rank r f h = sym (or_none (at name xs))
at_fold name xs (e ∷ es) rank r f h =
    let few : Few e.rank xs = few_up rank e.rank xs h.0 f in
    at_fold name (put xs e) es e.rank (put-rises xs e r) (few_put e.rank xs e (omega arith) few) h.1
    ∙ ap (λ o. option_or o (at name es)) (at_put name xs e r few)
    ∙ or_assoc (at name xs) (alone name e) (at name es)
    ∙ ap (option_or (at name xs)) (by (same_text name e.name))
  where
    by : (b : Bool) → option_or (cond b (Some e) None) (at name es) ≡ cond b (Some e) (at name es)
    by true = refl
    by false = refl

rising_suffix : (suffix : List ℕ) (rank : ℕ) (files : List SourceFile) → Rising rank files → Rising rank (with_suffix suffix files)
rising_suffix suffix rank [] h = tt
rising_suffix suffix rank (file ∷ files) h = by (ends_with eqb file.name suffix) (rising_suffix suffix file.rank files h.1)
  where
    by : (b : Bool) → Rising file.rank (with_suffix suffix files) → Rising rank (cond b (file ∷ with_suffix suffix files) (with_suffix suffix files))
    by true k = (h.0, k)
    by false k = rising_from rank file.rank (with_suffix suffix files) h.0 k

-- a name with the suffix is not lost
at_suffix : (name suffix : List ℕ) (files : List SourceFile) → ends_with eqb name suffix ≡ true → at name (with_suffix suffix files) ≡ at name files
at_suffix name suffix [] h = refl
at_suffix name suffix (file ∷ files) h = by (ends_with eqb file.name suffix) refl (same_text name file.name) refl (at_suffix name suffix files h)
  where
    by : (b : Bool) → ends_with eqb file.name suffix ≡ b → (c : Bool) → same_text name file.name ≡ c → at name (with_suffix suffix files) ≡ at name files
        → at name (cond b (file ∷ with_suffix suffix files) (with_suffix suffix files)) ≡ cond c (Some file) (at name files)
    by true e true f k = ap (λ t. cond t (Some file) (at name (with_suffix suffix files))) f
    by true e false f k = ap (λ t. cond t (Some file) (at name (with_suffix suffix files))) f ∙ k
    by false e true f k = absurd (true≢false (sym h ∙ ap (λ n. ends_with eqb n suffix) (equal_names name file.name f) ∙ e))
    by false e false f k = k

read_at : (name suffix : List ℕ) (files : List SourceFile) → ends_with eqb name suffix ≡ true → Rising 0 files → at name (ordered suffix files) ≡ at name files
read_at name suffix files h r = at_fold name [] (with_suffix suffix files) 0 rises_none tt (rising_suffix suffix 0 files r) ∙ at_suffix name suffix files h

-- ---- the files of visits, and their sights

kinds_flip : (a b : FileKind) → same_kind a b ≡ same_kind b a
kinds_flip kinds.Hwdb kinds.Hwdb = refl
kinds_flip kinds.Hwdb kinds.Rules = refl
kinds_flip kinds.Rules kinds.Hwdb = refl
kinds_flip kinds.Rules kinds.Rules = refl

-- a file of a visit
abbrev made : Visit → (name bytes : List ℕ) → SourceFile
made v name bytes = record { kind = v.kind; rank = v.rank; name = name; bytes = bytes }

abbrev of_kind : FileKind → List SourceFile → List SourceFile
of_kind kind files = filter (λ file. same_kind file.kind kind) files

-- the files of one visit are of its kind
one_kind : (kind : FileKind) (v : Visit) (sights : List Sight) (b : Bool) → same_kind v.kind kind ≡ b
    → of_kind kind (flat_map (file_of_sight v.kind v.rank v.is_named) sights) ≡ cond b (flat_map (file_of_sight v.kind v.rank v.is_named) sights) []
one_kind kind v [] true e = refl
one_kind kind v [] false e = refl
one_kind kind v (s ∷ sights) b e =
    filter-append (λ file. same_kind file.kind kind) (file_of_sight v.kind v.rank v.is_named s) (flat_map (file_of_sight v.kind v.rank v.is_named) sights)
    ∙ both (cond v.is_named s.path s.name) s.met b e (one_kind kind v sights b e)
  where
    rest : List SourceFile
    rest = flat_map (file_of_sight v.kind v.rank v.is_named) sights

    both : (name : List ℕ) (m : Met) (b : Bool) → same_kind v.kind kind ≡ b → of_kind kind rest ≡ cond b rest []
        → of_kind kind (file_of_met v.kind v.rank name m) ++ of_kind kind rest ≡ cond b (file_of_met v.kind v.rank name m ++ rest) []
    both name (met.File bytes) true e h = ap (λ t. cond t (made v name bytes ∷ []) [] ++ of_kind kind rest) e ∙ ap (λ (files : List SourceFile). made v name bytes ∷ files) h
    both name (met.File bytes) false e h = ap (λ t. cond t (made v name bytes ∷ []) [] ++ of_kind kind rest) e ∙ h
    both name met.OtherName true e h = h
    both name met.OtherName false e h = h
    both name met.Folder true e h = h
    both name met.Folder false e h = h
    both name (met.Unread reason) true e h = h
    both name (met.Unread reason) false e h = h

more_of_kind : (kind : FileKind) (v : Visit) (visits : List Visit) → files_of_kind kind (v ∷ visits) ≡ cond (same_kind kind v.kind) (files_of_visit v) [] ++ files_of_kind kind visits
more_of_kind kind v visits =
    filter-append (λ file. same_kind file.kind kind) (files_of_visit v) (files_of visits)
    ∙ ap (λ (files : List SourceFile). files ++ files_of_kind kind visits) (one_kind kind v v.scan.sights.items (same_kind kind v.kind) (kinds_flip v.kind kind))

-- files of one rank before others of no lesser one
rising_sights : (low : ℕ) (v : Visit) (sights : List Sight) (files : List SourceFile) → low ≤ v.rank → Rising v.rank files → Rising low (flat_map (file_of_sight v.kind v.rank v.is_named) sights ++ files)
rising_sights low v [] files l h = rising_from low v.rank files l h
rising_sights low v (s ∷ sights) files l h = by (cond v.is_named s.path s.name) s.met (λ n k. rising_sights n v sights files k h)
  where
    rest : List SourceFile
    rest = flat_map (file_of_sight v.kind v.rank v.is_named) sights

    by : (name : List ℕ) (m : Met) → ((n : ℕ) → n ≤ v.rank → Rising n (rest ++ files)) → Rising low ((file_of_met v.kind v.rank name m ++ rest) ++ files)
    by name (met.File bytes) more = (l, more v.rank (omega arith))
    by name met.OtherName more = more low l
    by name met.Folder more = more low l
    by name (met.Unread reason) more = more low l

rising_visits : (kind : FileKind) (rank : ℕ) (visits : List Visit) → RanksRise kind rank visits → Rising rank (files_of_kind kind visits)
rising_visits kind rank [] h = tt
rising_visits kind rank (v ∷ visits) h = subst (Rising rank) (sym (more_of_kind kind v visits)) (by (same_kind kind v.kind) h (λ n k. rising_visits kind n visits k))
  where
    by : (b : Bool) → MatchBool b ((v.is_named ≡ false) × (rank ≤ v.rank) × RanksRise kind v.rank visits) (RanksRise kind rank visits)
        → ((n : ℕ) → RanksRise kind n visits → Rising n (files_of_kind kind visits)) → Rising rank (cond b (files_of_visit v) [] ++ files_of_kind kind visits)
    by true h more = rising_sights rank v v.scan.sights.items (files_of_kind kind visits) h.1 (more v.rank h.2)
    by false h more = more rank h

one_or : (visits : List Visit) (a c : Option Sight) (b d : Option SourceFile) → AreOneFile visits a b → AreOneFile visits c d → AreOneFile visits (option_or a c) (option_or b d)
one_or visits (Some s) c (Some file) d h k = h
one_or visits (Some s) c None d h k = absurd h
one_or visits None c (Some file) d h k = absurd h
one_or visits None c None d h k = k

one_more : (v : Visit) (visits : List Visit) (a : Option Sight) (b : Option SourceFile) → AreOneFile visits a b → AreOneFile (v ∷ visits) a b
one_more v visits (Some s) (Some file) h =
    let later : suc h.visited.0 < length (v ∷ visits) = let under : h.visited.0 < length visits = h.visited.1 in omega arith in
    record { visit = h.visit; visited = (suc h.visited.0, later, h.visited.2); seen = h.seen; name = h.name; rank = h.rank; kind = h.kind; bytes = h.bytes }
one_more v visits (Some s) None h = h
one_more v visits None (Some file) h = h
one_more v visits None None h = h

-- among the sights of one visit
one_here : (name : List ℕ) (visits : List Visit) (v : Visit) → Contains visits v → v.is_named ≡ false → (sights : List Sight) → AllByRecursion (Contains v.scan.sights.items) sights
    → AreOneFile visits (counting sights name) (at name (flat_map (file_of_sight v.kind v.rank v.is_named) sights))
one_here name visits v among unnamed [] all = tt
one_here name visits v among unnamed (s ∷ sights) all =
    subst (AreOneFile visits (counting (s ∷ sights) name)) (sym (find-append (λ (file : SourceFile). same_text name file.name) (file_of_sight v.kind v.rank v.is_named s) rest))
    (by s.met refl (one_here name visits v among unnamed sights all.1))
  where
    rest : List SourceFile
    rest = flat_map (file_of_sight v.kind v.rank v.is_named) sights

    own : List ℕ
    own = cond v.is_named s.path s.name

    is_own : own ≡ s.name
    is_own = ap (λ b. cond b s.path s.name) unnamed

    here : (bytes : List ℕ) → s.met ≡ met.File bytes → (b : Bool) → AreOneFile visits (counting sights name) (at name rest)
        → AreOneFile visits (cond b (Some s) (counting sights name)) (option_or (cond b (Some (made v own bytes)) None) (at name rest))
    here bytes e true h = record { visit = v; visited = among; seen = all.0; name = is_own; rank = refl; kind = refl; bytes = e }
    here bytes e false h = h

    by : (m : Met) → s.met ≡ m → AreOneFile visits (counting sights name) (at name rest)
        → AreOneFile visits (cond (is_file m && same_text name s.name) (Some s) (counting sights name)) (option_or (at name (file_of_met v.kind v.rank own m)) (at name rest))
    by (met.File bytes) e h =
        subst (λ n. AreOneFile visits (cond (same_text name n) (Some s) (counting sights name)) (option_or (cond (same_text name own) (Some (made v own bytes)) None) (at name rest))) is_own
        (here bytes e (same_text name own) h)
    by met.OtherName e h = h
    by met.Folder e h = h
    by (met.Unread reason) e h = h

counting_append : (name : List ℕ) (xs ys : List Sight) → counting (xs ++ ys) name ≡ option_or (counting xs name) (counting ys name)
counting_append name xs ys = find-append (λ (s : Sight). is_file s.met && same_text name s.name) xs ys

one_file : (kind : FileKind) (rank : ℕ) (visits : List Visit) (name : List ℕ) → RanksRise kind rank visits → AreOneFile visits (counting (sights_of kind visits) name) (at name (files_of_kind kind visits))
one_file kind rank [] name h = tt
one_file kind rank (v ∷ visits) name h =
    subst (λ o. AreOneFile (v ∷ visits) o (at name (files_of_kind kind (v ∷ visits)))) (sym (counting_append name (cond (same_kind kind v.kind) v.scan.sights.items []) (sights_of kind visits)))
    (subst (AreOneFile (v ∷ visits) (option_or (counting (cond (same_kind kind v.kind) v.scan.sights.items []) name) (counting (sights_of kind visits) name)))
    (sym (ap (at name) (more_of_kind kind v visits) ∙ find-append (λ (file : SourceFile). same_text name file.name) (cond (same_kind kind v.kind) (files_of_visit v) []) (files_of_kind kind visits)))
    (by (same_kind kind v.kind) h (λ n k. one_file kind n visits name k)))
  where
    first : Contains (v ∷ visits) v
    first = (0, omega arith, refl)

    by : (b : Bool) → MatchBool b ((v.is_named ≡ false) × (rank ≤ v.rank) × RanksRise kind v.rank visits) (RanksRise kind rank visits)
        → ((n : ℕ) → RanksRise kind n visits → AreOneFile visits (counting (sights_of kind visits) name) (at name (files_of_kind kind visits)))
        → AreOneFile (v ∷ visits) (option_or (counting (cond b v.scan.sights.items []) name) (counting (sights_of kind visits) name)) (option_or (at name (cond b (files_of_visit v) [])) (at name (files_of_kind kind visits)))
    by true h more =
        one_or (v ∷ visits) (counting v.scan.sights.items name) (counting (sights_of kind visits) name) (at name (files_of_visit v)) (at name (files_of_kind kind visits))
        (one_here name (v ∷ visits) v first h.0 v.scan.sights.items (recursion_from_All (Contains v.scan.sights.items) v.scan.sights.items (All-contains_itself v.scan.sights.items)))
        (one_more v visits (counting (sights_of kind visits) name) (at name (files_of_kind kind visits)) (more v.rank h.2))
    by false h more = one_more v visits (counting (sights_of kind visits) name) (at name (files_of_kind kind visits)) (more rank h)

-- ---- sights by name

-- sights that have a name, of some that are sorted and of those as they came
same_named : (sights sorted : List Sight) (name : List ℕ) → IsStableByKey (λ (s : Sight). s.name) text_order sights sorted → filter (λ (s : Sight). same_text name s.name) sorted ≡ filter (λ (s : Sight). same_text name s.name) sights
same_named sights sorted name stable =
    sym (agree sorted) ∙ stable x ∙ agree sights
  where
    x : Sight
    x = record { name = name; path = name; met = met.OtherName }

    agree : (xs : List Sight) → filter (ties (λ (a b : Sight). is_lt (text_order a.name b.name)) x) xs ≡ filter (λ (s : Sight). same_text name s.name) xs
    agree xs = filter_agree (ties (λ (a b : Sight). is_lt (text_order a.name b.name)) x) (λ (s : Sight). same_text name s.name) (λ s. tied name s x refl) xs

counting_sorted : (sights sorted : List Sight) (name : List ℕ) → AreByName sights sorted → counting sorted name ≡ counting sights name
counting_sorted sights sorted name h =
    find_both (λ (s : Sight). is_file s.met) (λ (s : Sight). same_text name s.name) sorted
    ∙ ap (find (λ (s : Sight). is_file s.met)) (same_named sights sorted name h.stable)
    ∙ sym (find_both (λ (s : Sight). is_file s.met) (λ (s : Sight). same_text name s.name) sights)

-- the file that counts is the one that is read
pub read_as_reported : (kind : FileKind) (visits : List Visit) (sights : List Sight) (name : List ℕ) → RanksRise kind 0 visits → AreByName (sights_of kind visits) sights → ends_with eqb name (suffix_of kind) ≡ true
    → AreOneFile visits (counting sights name) (find (λ file. same_text name file.name) (ordered (suffix_of kind) (files_of_kind kind visits)))
read_as_reported kind visits sights name rise by_name suffix =
    subst (λ o. AreOneFile visits o (at name (ordered (suffix_of kind) (files_of_kind kind visits)))) (sym (counting_sorted (sights_of kind visits) sights name by_name))
    (subst (AreOneFile visits (counting (sights_of kind visits) name)) (sym (read_at name (suffix_of kind) (files_of_kind kind visits) suffix (rising_visits kind 0 visits rise)))
    (one_file kind 0 visits name rise))
