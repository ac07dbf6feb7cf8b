-- Names on a way: what ends before some or after the last, and the first of a path.
use Rattle.std.proofs.Common.{◌≡◌, ◌==◌, ◌++◌, ◌+◌, ◌-◌, ◌<◌, ◌∷◌, ◌∙◌, [], ℕ, List, ap, arith, length, map, refl, subst, suc, sym, take}
use Rattle.std.proofs.Math.Seq.{take-append_seam}
use Rattle.std.proofs.lemmas.List.{length-append}
use Rattle.std.proofs.lemmas.List.Splits.{length-slice_split}
use Rattle.text_bytes.specs.Names.{slash}
use Rattle.devdry_files.specs.Answers.{Answer}
use Rattle.devdry_files.specs.Walks.{Leads, LeadsOn, Way, above, below, max_links, names_in, settled}
use Rattle.devdry_files.specs.declared.step.End.{End}

-- after the last name an end is as it is
pub settled_at_last : {T : Type 0} (text : T → List ℕ) (names : List T) (it : End) → length names ≡ 0 → settled (map text names) it ≡ it
settled_at_last text [] it none = refl
settled_at_last text (name ∷ names) it none = absurd (omega (arith, none))

-- before a name it is what is below it
pub settled_before : {T : Type 0} (text : T → List ℕ) (names : List T) (it : End) → 0 < length names → settled (map text names) it ≡ below it
settled_before text [] it some = absurd (omega (arith, some))
settled_before text (name ∷ names) it some = refl

-- with all links left, names lead on
pub leads_on : (may : Answer → Type 0) (root : List ℕ) (way names : Way) (it : End) (at : Way) (left : ℕ) → left + 0 ≡ suc max_links → Leads may root left way names it at → LeadsOn may root way names it at
unfolding LeadsOn
leads_on may root way names it at left all h =
    let same : left ≡ suc max_links = omega (arith, all) in
    subst (λ n. Leads may root n way names it at) same h

-- a path has a name, though that may be empty
pub some_names : {T : Type 0} (text : T → List ℕ) (names : List T) (path : List ℕ) → length names ≡ 0 → map text names ≡ names_in path → ⊥
some_names text [] path none is =
    let no : length (names_in path) ≡ 0 = sym (ap length is) in
    omega (arith, no, length-slice_split (λ b. b == slash) path)
some_names text (name ∷ names) path none is = omega (arith, none)

-- the folder above the last of some names is that of those before it
pub above_last : (way : Way) (name : List ℕ) → above (way ++ name ∷ []) ≡ way
above_last way name =
    let one_less : length (way ++ name ∷ []) - 1 ≡ length way = omega (arith, length-append way (name ∷ [])) in
    ap (λ n. take n (way ++ name ∷ [])) one_less ∙ take-append_seam way (name ∷ [])
