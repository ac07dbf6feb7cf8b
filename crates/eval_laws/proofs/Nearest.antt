-- No place is nearer than the one that is reported.
use Rattle.std.proofs.Common.{◌≡◌, ℕ, zero, suc, ◌<◌, ◌≤◌, ◌||◌, Bool, true, false, not, cond, nat_lt, List, [], ◌∷◌, Contains, Option, Some, None, option_map, find, filter_map, get_or, length, arith, refl, ap, sym, subst, ◌∙◌}
use Rattle.std.proofs.lemmas.Bool.Decides.{nat_tests}
use Rattle.std.specs.Int.{abs_diff}
use Rattle.std.specs.List.{cons_option, list_any}
use Rattle.text_bytes.specs.Text.{Text}
use Rattle.engine_courses.specs.Nearest.{Candidate, Place, candidate_of, is_nearer, least, line_asked, nearest}

-- what is found passes the test
passes : {X : Type 0} (p : X → Bool) (xs : List X) (x : X) → find p xs ≡ Some x → p x ≡ true
passes p [] x h = cc
passes {X} p (y ∷ ys) x h = by (p y) refl h (passes p ys x)
  where
    by : (b : Bool) → p y ≡ b → cond b (Some y) (find p ys) ≡ Some x → (find p ys ≡ Some x → p x ≡ true) → p x ≡ true
    by true e h k = let same : y ≡ x = cc in ap p (sym same) ∙ e
    by false e h k = k h

not_true : (b : Bool) → not b ≡ true → b ≡ false
not_true true h = cc
not_true false h = refl

neither_first : (a b : Bool) → (a || b) ≡ false → a ≡ false
neither_first false b h = refl
neither_first true b h = h

neither_second : (a b : Bool) → (a || b) ≡ false → b ≡ false
neither_second false b h = h
neither_second true b h = cc

-- none of the candidates of places passes a test, so that of one of them does not
none_of : (text : Text) (test : Candidate → Bool) (places : List Place) (other : Place) (far : Candidate) (k : ℕ) → k < length places → get_or places k other ≡ other
    → candidate_of text other ≡ Some far → list_any test (filter_map (candidate_of text) places) ≡ false → test far ≡ false
none_of text test [] other far k l e c h = absurd (omega (arith, l))
none_of text test (place ∷ places) other far zero l e c h =
    neither_first (test far) (list_any test (filter_map (candidate_of text) places))
    (ap (λ o. list_any test (cons_option o (filter_map (candidate_of text) places))) (sym (ap (candidate_of text) e ∙ c)) ∙ h)
none_of text test (place ∷ places) other far (suc k) l e c h = none_of text test places other far k (omega (arith, l)) e c (by (candidate_of text place) h)
  where
    by : (o : Option Candidate) → list_any test (cons_option o (filter_map (candidate_of text) places)) ≡ false → list_any test (filter_map (candidate_of text) places) ≡ false
    by None h = h
    by (Some found) h = neither_second (test found) (list_any test (filter_map (candidate_of text) places)) h

-- a candidate that is found is that of its place
own : (text : Text) (p : Candidate → Bool) (places : List Place) (found : Candidate) → find p (filter_map (candidate_of text) places) ≡ Some found → candidate_of text found.1 ≡ Some found
own text p [] found h = cc
own text p (place ∷ places) found h = by (candidate_of text place) refl h (own text p places found)
  where
    line_of : (c : Candidate) (o : Option ℕ) → option_map (λ n. (abs_diff n place.1, place)) o ≡ Some c → c.1 ≡ place
    line_of c None e = cc
    line_of c (Some n) e = let same : (abs_diff n place.1, place) ≡ c = cc in ap (λ (d : Candidate). d.1) (sym same)

    one : (c : Candidate) → candidate_of text place ≡ Some c → (b : Bool) → cond b (Some c) (find p (filter_map (candidate_of text) places)) ≡ Some found
        → (find p (filter_map (candidate_of text) places) ≡ Some found → candidate_of text found.1 ≡ Some found) → candidate_of text found.1 ≡ Some found
    one c e false h k = k h
    one c e true h k =
        let same : c ≡ found = cc in
        ap (candidate_of text) (ap (λ (d : Candidate). d.1) (sym same) ∙ line_of c (line_asked text place) e) ∙ e ∙ h

    by : (o : Option Candidate) → candidate_of text place ≡ o → find p (cons_option o (filter_map (candidate_of text) places)) ≡ Some found
        → (find p (filter_map (candidate_of text) places) ≡ Some found → candidate_of text found.1 ≡ Some found) → candidate_of text found.1 ≡ Some found
    by None e h k = k h
    by (Some c) e h k = one c e (p c) h k

at_most : (n m : ℕ) → nat_lt m n ≡ false → n ≤ m
at_most n m h = grind (arith, nat_tests, h)

pub none_is_nearer : (text : Text) (places : List Place) (place other : Place) (near far : Candidate) → nearest text places ≡ Some place
    → Contains places other → candidate_of text place ≡ Some near → candidate_of text other ≡ Some far → near.0 ≤ far.0
unfolding least
none_is_nearer text places place other near far is among c d = by (least (filter_map (candidate_of text) places)) refl is
  where
    by : (o : Option Candidate) → least (filter_map (candidate_of text) places) ≡ o → option_map (λ (found : Candidate). found.1) o ≡ Some place → near.0 ≤ far.0
    by None e h = cc
    by (Some found) e h =
        let here : found.1 ≡ place = cc in
        let same : Some found ≡ Some near = sym (own text _ places found e) ∙ ap (candidate_of text) here ∙ c in
        let nearer : is_nearer far found ≡ false =
        none_of text (λ (b : Candidate). is_nearer b found) places other far among.0 among.1 among.2 d
        (not_true (list_any (λ (b : Candidate). is_nearer b found) (filter_map (candidate_of text) places)) (passes _ (filter_map (candidate_of text) places) found e)) in
        let first : nat_lt far.0 found.0 ≡ false = neither_first (nat_lt far.0 found.0) _ nearer in
        let equal : found ≡ near = cc in
        subst (λ (n : Candidate). n.0 ≤ far.0) equal (at_most found.0 far.0 first)
