-- Counts of one rule, event after event.
use Rattle.std.proofs.Common.{◌≡◌, ◌≢◌, ℕ, zero, suc, ◌+◌, ◌<◌, ◌≤◌, ◌⊎◌, inl, inr, Bool, true, false, cond, eqb, ◌||◌, List, [], ◌∷◌, ◌++◌, length, map, get_or, set, fold, codes, refl, ap, sym, ◌∙◌, subst, arith, add-zero, zero-add}
use Rattle.std.specs.List.{count_by, list_any, sum_by}
use Rattle.std.proofs.lemmas.Bool.Decides.{eqb_tells}
use Rattle.std.proofs.lemmas.Bool.{ne_eqb}
use Rattle.std.proofs.lemmas.List.{length-map, get_or-set_same, get_or-set_other, length-set}
use Rattle.std.proofs.lemmas.List.Sums.{sum_by-cons}
use Rattle.text_bytes.specs.Names.{newline}
use Rattle.text_bytes.specs.Text.{Text}
use Rattle.rule_types.specs.Rules.{Rule}
use Rattle.engine_sessions.specs.Places.{place_of}
use Rattle.eval_courses.specs.Fates.{keys_of}
use Rattle.eval_courses.specs.declared.fate.Fate.{Fate}
use Rattle.eval_courses.specs.declared.fate.Fate.TheVariants.{Passed, Stopped, Met}
use Rattle.engine_courses.specs.UnusedLaws.{after, ends_at, is_reached}
use Rattle.engine_courses.specs.Rows.{Row, raised, unreached, with_end, with_fate}
use Rattle.engine_courses.specs.Unused.{line_if_unmet, line_on, unmet_text, unused_line}

counts-cons : {X : Type 0} (p : X → Bool) (x : X) (xs : List X) → count_by p (x ∷ xs) ≡ cond (p x) 1 0 + count_by p xs
counts-cons p x xs = sum_by-cons (λ y. cond (p y) 1 0) x xs

one_side : (a b : ℕ) → (a + 1) + b ≡ a + (1 + b)
one_side a b = omega arith

reached_from : (row : Row) (fs : List Fate) → (fold with_fate row fs).reached ≡ row.reached + count_by is_reached fs
reached_from row [] = sym (add-zero row.reached)
reached_from row (Passed ∷ fs) = reached_from row fs ∙ ap (λ n. row.reached + n) (sym (counts-cons is_reached Passed fs ∙ zero-add (count_by is_reached fs)))
reached_from row (Stopped number ∷ fs) = reached_from (with_end row number) fs ∙ one_side row.reached (count_by is_reached fs) ∙ ap (λ n. row.reached + n) (sym (counts-cons is_reached (Stopped number) fs))
reached_from row (Met ∷ fs) = reached_from (with_end row 0) fs ∙ one_side row.reached (count_by is_reached fs) ∙ ap (λ n. row.reached + n) (sym (counts-cons is_reached Met fs))

-- one count is raised
raised_at : (place end : ℕ) (ends : List ℕ) → place < length ends → get_or (raised end ends) place 0 ≡ get_or ends place 0 + cond (eqb place end) 1 0
raised_at place end ends h = by (eqb_tells place end)
  where
    by : ((eqb place end ≡ true) × (place ≡ end)) ⊎ ((eqb place end ≡ false) × (place ≢ end)) → get_or (raised end ends) place 0 ≡ get_or ends place 0 + cond (eqb place end) 1 0
    by (inl p) =
        ap (λ k. get_or (set ends k (get_or ends k 0 + 1)) place 0) (sym p.1)
        ∙ get_or-set_same ends place (get_or ends place 0 + 1) 0 h
        ∙ ap (λ b. get_or ends place 0 + cond b 1 0) (sym p.0)
    by (inr p) =
        get_or-set_other ends end place (get_or ends end 0 + 1) 0 p.1
        ∙ sym (add-zero (get_or ends place 0))
        ∙ ap (λ b. get_or ends place 0 + cond b 1 0) (sym p.0)

assoc : (a b c : ℕ) → (a + b) + c ≡ a + (b + c)
assoc a b c = omega arith

more : (row : Row) (number place : ℕ) → place < length row.ends → place < length (raised number row.ends)
more row number place h = subst (λ n. place < n) (sym (length-set row.ends number (get_or row.ends number 0 + 1))) h

ended : (place : ℕ) (row : Row) (number : ℕ) (f : Fate) (fs : List Fate) → place < length row.ends → ends_at place f ≡ eqb place number
    → get_or (fold with_fate (with_end row number) fs).ends place 0 ≡ get_or (raised number row.ends) place 0 + count_by (ends_at place) fs
    → get_or (fold with_fate (with_end row number) fs).ends place 0 ≡ get_or row.ends place 0 + count_by (ends_at place) (f ∷ fs)
ended place row number f fs h e k =
    k
    ∙ ap (λ n. n + count_by (ends_at place) fs) (raised_at place number row.ends h)
    ∙ assoc (get_or row.ends place 0) (cond (eqb place number) 1 0) (count_by (ends_at place) fs)
    ∙ ap (λ b. get_or row.ends place 0 + (cond b 1 0 + count_by (ends_at place) fs)) (sym e)
    ∙ ap (λ n. get_or row.ends place 0 + n) (sym (counts-cons (ends_at place) f fs))

pub ends_from : (place : ℕ) (row : Row) (fs : List Fate) → place < length row.ends → get_or (fold with_fate row fs).ends place 0 ≡ get_or row.ends place 0 + count_by (ends_at place) fs
ends_from place row [] h = sym (add-zero (get_or row.ends place 0))
ends_from place row (Passed ∷ fs) h = ends_from place row fs h ∙ ap (λ n. get_or row.ends place 0 + n) (sym (counts-cons (ends_at place) Passed fs ∙ zero-add (count_by (ends_at place) fs)))
ends_from place row (Stopped number ∷ fs) h = ended place row number (Stopped number) fs h refl (ends_from place (with_end row number) fs (more row number place h))
ends_from place row (Met ∷ fs) h = ended place row 0 Met fs h refl (ends_from place (with_end row 0) fs (more row 0 place h))

-- all counts of a rule before any event are 0
abbrev no_events : Text → ℕ
no_events key = 0

zeros : (place : ℕ) (keys : List Text) → get_or (map no_events keys) place 0 ≡ 0
zeros place [] = refl
zeros zero (key ∷ keys) = refl
zeros (suc place) (key ∷ keys) = zeros place keys

none_yet : (r : Rule) (place : ℕ) → get_or (unreached r).ends place 0 ≡ 0
none_yet r zero = refl
none_yet r (suc place) = zeros place (keys_of r)

pub reached_is : (r : Rule) (fs : List Fate) → (after r fs).reached ≡ count_by is_reached fs
reached_is r fs = reached_from (unreached r) fs ∙ zero-add (count_by is_reached fs)

-- a place of a count, and the first
within : (place n m : ℕ) → place ≤ n → m ≡ n → place < suc m
within place n m h e = omega (arith, h, e)

least : (n : ℕ) → 0 ≤ n
least n = omega arith

pub ends_are : (r : Rule) (fs : List Fate) (place : ℕ) → place ≤ length (keys_of r) → get_or (after r fs).ends place 0 ≡ count_by (ends_at place) fs
ends_are r fs place h =
    ends_from place (unreached r) fs (within place (length (keys_of r)) (length (map no_events (keys_of r))) h (length-map (keys_of r) no_events))
    ∙ ap (λ n. n + count_by (ends_at place) fs) (none_yet r place)
    ∙ zero-add (count_by (ends_at place) fs)

-- a test that some element passes counts at least one
some_counted : {X : Type 0} (p : X → Bool) (xs : List X) → list_any p xs ≡ true → count_by p xs ≡ 0 → ⊥
some_counted p [] e z = let no : false ≡ true = e in absurd cc
some_counted p (x ∷ xs) e z = by (p x) refl (some_counted p xs)
  where
    by : (b : Bool) → p x ≡ b → (list_any p xs ≡ true → count_by p xs ≡ 0 → ⊥) → ⊥
    by true k others = let one : 1 + count_by p xs ≡ 0 = ap (λ b. cond b 1 0 + count_by p xs) (sym k) ∙ sym (counts-cons p x xs) ∙ z in absurd (omega (arith, one))
    by false k others =
        let rest : list_any p xs ≡ true = ap (λ b. b || list_any p xs) (sym k) ∙ e in
        let none : 0 + count_by p xs ≡ 0 = ap (λ b. cond b 1 0 + count_by p xs) (sym k) ∙ sym (counts-cons p x xs) ∙ z in
        others rest (sym (zero-add (count_by p xs)) ∙ none)

no_line : (r : Rule) (reached : ℕ) (ends : List ℕ) → (get_or ends 0 0 ≡ 0 → ⊥) → line_if_unmet r reached ends ≡ []
no_line r reached [] n = absurd (n refl)
no_line r reached (met ∷ stops) n = ap (λ b. cond b (line_on r reached stops) []) (ne_eqb met 0 n)

pub met_none : (r : Rule) (fs : List Fate) → list_any (ends_at 0) fs ≡ true → unused_line r (after r fs) ≡ []
met_none r fs e = no_line r (after r fs).reached (after r fs).ends (λ z. some_counted (ends_at 0) fs e (sym (ends_are r fs 0 (least (length (keys_of r)))) ∙ z))

-- events that pass a rule over leave its counts
passed_all : (row : Row) (fs : List Fate) → list_any is_reached fs ≡ false → fold with_fate row fs ≡ row
passed_all row [] e = refl
passed_all row (Passed ∷ fs) e = passed_all row fs e
passed_all row (Stopped number ∷ fs) e = let no : true ≡ false = e in absurd cc
passed_all row (Met ∷ fs) e = let no : true ≡ false = e in absurd cc

pub unreached_said : (r : Rule) (fs : List Fate) → list_any is_reached fs ≡ false → unused_line r (after r fs) ≡ codes "unused " ++ place_of r.file r.line ++ codes "not reached" ++ newline ∷ []
unfolding line_on unmet_text
unreached_said r fs e = ap (unused_line r) (passed_all (unreached r) fs e)
