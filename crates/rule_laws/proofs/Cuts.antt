-- A paragraph is cut in one way.
use Rattle.std.proofs.Common.{◌≡◌, ℕ, suc, ◌+◌, Bool, true, false, not, cond, List, ◌∷◌, [], ◌++◌, length, take, drop, refl, sym, ◌∙◌, ap, subst, arith}
use Rattle.std.specs.List.{All, prefix_len, take_while}
use Rattle.std.proofs.Math.Seq.{drop-append_seam, take-append_seam}
use Rattle.std.proofs.lemmas.List.{take-append-drop}
use Rattle.std.proofs.lemmas.List.Elements.{All-cons}
use Rattle.std.proofs.lemmas.List.Sums.{take_while-cons}
use Rattle.text_bytes.specs.Lines.{NumberedLine}
use Rattle.text_bytes.specs.Texts.{skip_while}
use Rattle.hwdb_core.specs.Paragraphs.{Cut, EmptyOrMatch, IsCut, cut, is_match, is_property}

-- a list is empty, or its first element does not pass
abbrev StopsAt : (NumberedLine → Bool) → List NumberedLine → Type 0
StopsAt t [] = Unit {0}
StopsAt t (x ∷ xs) = t x ≡ false

not_true : (b : Bool) → not b ≡ true → b ≡ false
not_true true h = cc
not_true false h = refl

not_false : (b : Bool) → not b ≡ false → b ≡ true
not_false true h = refl
not_false false h = cc

run_is : (t : NumberedLine → Bool) (xs ys : List NumberedLine) → All (λ l. t l ≡ true) xs → StopsAt t ys → prefix_len t (xs ++ ys) ≡ length xs
run_is t [] [] h s = refl
run_is t [] (y ∷ ys) h s = ap (λ (b : Bool). cond b (1 + prefix_len t ys) 0) s
run_is t (x ∷ xs) ys h s =
    let here : t x ≡ true = h 0 x (omega arith) in
    let more : prefix_len t (xs ++ ys) ≡ length xs = run_is t xs ys (λ k d l. h (suc k) d (omega arith)) s in
    let next : 1 + prefix_len t (xs ++ ys) ≡ suc (length xs) = omega arith in
    ap (λ (b : Bool). cond b (1 + prefix_len t (xs ++ ys)) 0) here ∙ next

run_taken : (t : NumberedLine → Bool) (xs ys : List NumberedLine) → All (λ l. t l ≡ true) xs → StopsAt t ys → take_while t (xs ++ ys) ≡ xs
run_taken t xs ys h s = ap (λ (n : ℕ). take n (xs ++ ys)) (run_is t xs ys h s) ∙ take-append_seam xs ys

run_dropped : (t : NumberedLine → Bool) (xs ys : List NumberedLine) → All (λ l. t l ≡ true) xs → StopsAt t ys → skip_while t (xs ++ ys) ≡ ys
run_dropped t xs ys h s = ap (λ (n : ℕ). drop n (xs ++ ys)) (run_is t xs ys h s) ∙ drop-append_seam xs ys

skip_while-cons : (t : NumberedLine → Bool) (x : NumberedLine) (xs : List NumberedLine) → skip_while t (x ∷ xs) ≡ cond (t x) (skip_while t xs) (x ∷ xs)
skip_while-cons t x xs =
    let next : 1 + prefix_len t xs ≡ suc (prefix_len t xs) = omega arith in
    elim (t x) as (λ v. drop (cond v (1 + prefix_len t xs) 0) (x ∷ xs) ≡ cond v (skip_while t xs) (x ∷ xs)) [
      | true ↦ ap (λ (n : ℕ). drop n (x ∷ xs)) next
      | false ↦ refl
    ]

-- each element of a run passes
all_taken : (t : NumberedLine → Bool) (xs : List NumberedLine) → All (λ l. t l ≡ true) (take_while t xs)
all_taken t [] = λ k d h. absurd (omega arith)
all_taken t (x ∷ xs) = subst (All (λ l. t l ≡ true)) (sym (take_while-cons t x xs)) (by_test (t x) refl (all_taken t xs)) where
  by_test : (b : Bool) → t x ≡ b → All (λ l. t l ≡ true) (take_while t xs) → All (λ l. t l ≡ true) (cond b (x ∷ take_while t xs) [])
  by_test true e rest = All-cons (λ l. t l ≡ true) x (take_while t xs) e rest
  by_test false e rest = λ k d h. absurd (omega arith)

-- what follows a run does not begin with an element that passes
run_ends : (t : NumberedLine → Bool) (xs : List NumberedLine) → StopsAt t (skip_while t xs)
run_ends t [] = tt
run_ends t (x ∷ xs) = subst (StopsAt t) (sym (skip_while-cons t x xs)) (by_test (t x) refl (run_ends t xs)) where
  by_test : (b : Bool) → t x ≡ b → StopsAt t (skip_while t xs) → StopsAt t (cond b (skip_while t xs) (x ∷ xs))
  by_test true e h = h
  by_test false e h = e

abbrev cut_as : List NumberedLine → List NumberedLine → List NumberedLine → List NumberedLine → Cut
cut_as a b c d = record { early = a; matches = b; properties = c; rest = d }

same_cut : (a b c d e f g h : List NumberedLine) → a ≡ e → b ≡ f → c ≡ g → d ≡ h → cut_as a b c d ≡ cut_as e f g h
same_cut a b c d e f g h i j k l =
    ap (λ (x : List NumberedLine). cut_as x b c d) i
    ∙ ap (λ (x : List NumberedLine). cut_as e x c d) j
    ∙ ap (λ (x : List NumberedLine). cut_as e f x d) k
    ∙ ap (λ (x : List NumberedLine). cut_as e f g x) l

-- what follows each part
rest_stops : (rest : List NumberedLine) → EmptyOrMatch rest → StopsAt is_property rest
rest_stops [] h = tt
rest_stops (l ∷ ls) h = not_true (is_property l) h

properties_stop : (properties rest : List NumberedLine) → All (λ l. is_property l ≡ true) properties → (properties ≡ [] → rest ≡ []) → StopsAt is_match (properties ++ rest)
properties_stop [] rest h none = subst (StopsAt is_match) (sym (none refl)) tt
properties_stop (l ∷ ls) rest h none = ap not (h 0 l (omega arith))

matches_stop : (matches properties rest : List NumberedLine) → All (λ l. is_match l ≡ true) matches → (matches ≡ [] → properties ≡ []) → (properties ≡ [] → rest ≡ []) → StopsAt is_property (matches ++ (properties ++ rest))
matches_stop [] properties rest h none after =
    let empty : properties ≡ [] = none refl in
    subst (StopsAt is_property) (sym (ap (λ (xs : List NumberedLine). xs ++ rest) empty ∙ after empty)) tt
matches_stop (l ∷ ls) properties rest h none after = not_true (is_property l) (h 0 l (omega arith))

only_cut : (p : List NumberedLine) (c : Cut) → IsCut p c → c ≡ cut p
only_cut p c i =
    let s1 : StopsAt is_property (c.matches ++ (c.properties ++ c.rest)) = matches_stop c.matches c.properties c.rest i.all_matches i.no_matches i.no_properties in
    let s2 : StopsAt is_match (c.properties ++ c.rest) = properties_stop c.properties c.rest i.all_properties i.no_properties in
    let s3 : StopsAt is_property c.rest = rest_stops c.rest i.rest_begins in
    let b1 : skip_while is_property p ≡ c.matches ++ (c.properties ++ c.rest) = ap (skip_while is_property) i.whole ∙ run_dropped is_property c.early (c.matches ++ (c.properties ++ c.rest)) i.early_properties s1 in
    let b2 : skip_while is_match (skip_while is_property p) ≡ c.properties ++ c.rest = ap (skip_while is_match) b1 ∙ run_dropped is_match c.matches (c.properties ++ c.rest) i.all_matches s2 in
    same_cut c.early c.matches c.properties c.rest (cut p).early (cut p).matches (cut p).properties (cut p).rest
    (sym (ap (take_while is_property) i.whole ∙ run_taken is_property c.early (c.matches ++ (c.properties ++ c.rest)) i.early_properties s1))
    (sym (ap (take_while is_match) b1 ∙ run_taken is_match c.matches (c.properties ++ c.rest) i.all_matches s2))
    (sym (ap (take_while is_property) b2 ∙ run_taken is_property c.properties c.rest i.all_properties s3))
    (sym (ap (skip_while is_property) b2 ∙ run_dropped is_property c.properties c.rest i.all_properties s3))

rest_begins_so : (rest : List NumberedLine) → StopsAt is_property rest → EmptyOrMatch rest
rest_begins_so [] h = tt
rest_begins_so (l ∷ ls) h = ap not h

-- if no match is taken from what no property begins, nothing is there
no_match : (q : List NumberedLine) → StopsAt is_property q → take_while is_match q ≡ [] → take_while is_property (skip_while is_match q) ≡ []
no_match [] s e = refl
no_match (l ∷ ls) s e =
    let taken : take_while is_match (l ∷ ls) ≡ l ∷ take_while is_match ls = take_while-cons is_match l ls ∙ ap (λ (b : Bool). cond b (l ∷ take_while is_match ls) []) (ap not s) in
    cc

no_property : (q : List NumberedLine) → StopsAt is_match q → take_while is_property q ≡ [] → skip_while is_property q ≡ []
no_property [] s e = refl
no_property (l ∷ ls) s e =
    let taken : take_while is_property (l ∷ ls) ≡ l ∷ take_while is_property ls = take_while-cons is_property l ls ∙ ap (λ (b : Bool). cond b (l ∷ take_while is_property ls) []) (not_false (is_property l) s) in
    cc

pub is_cut : (p : List NumberedLine) → IsCut p (cut p)
is_cut p = record {
  whole =
      sym (ap (λ (xs : List NumberedLine). take_while is_property p ++ (take_while is_match (skip_while is_property p) ++ xs)) (take-append-drop (prefix_len is_property (skip_while is_match (skip_while is_property p))) (skip_while is_match (skip_while is_property p)))
      ∙ ap (λ (xs : List NumberedLine). take_while is_property p ++ xs) (take-append-drop (prefix_len is_match (skip_while is_property p)) (skip_while is_property p))
      ∙ take-append-drop (prefix_len is_property p) p);
  early_properties = all_taken is_property p;
  all_matches = all_taken is_match (skip_while is_property p);
  all_properties = all_taken is_property (skip_while is_match (skip_while is_property p));
  rest_begins = rest_begins_so (cut p).rest (run_ends is_property (skip_while is_match (skip_while is_property p)));
  no_matches = no_match (skip_while is_property p) (run_ends is_property p);
  no_properties = no_property (skip_while is_match (skip_while is_property p)) (run_ends is_match (skip_while is_property p));
}

pub one_cut : (p : List NumberedLine) (c : Cut) → (IsCut p c → c ≡ cut p) × (c ≡ cut p → IsCut p c)
one_cut p c = (only_cut p c, λ e. subst (IsCut p) (sym e) (is_cut p))
