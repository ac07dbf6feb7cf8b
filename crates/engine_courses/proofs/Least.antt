-- The nearest of candidates, one after another, is the first that none of them is nearer than.
use Rattle.std.proofs.Common.{◌≡◌, ℕ, Bool, true, false, not, ◌||◌, ◌&&◌, cond, eqb, ltb, List, [], ◌∷◌, get_or, Some, fold, refl, ap, sym, ◌∙◌, arith}
use Rattle.std.specs.Cmp.{IsStrictWeakOrder}
use Rattle.std.specs.List.{best_of, find, list_any, position_or_len, slice_get}
use Rattle.std.proofs.lemmas.Bool.Decides.{nat_tests}
use Rattle.std.proofs.lemmas.List.Folds.{find_at, list_any_at, list_any_none}
use Rattle.std.proofs.lemmas.List.MinMax.{IsFirstBest-from_best_of}
use Rattle.std.proofs.lemmas.List.Sums.{position_or_len_is}
use Rattle.std.proofs.lemmas.List.{get_or_default}
use Rattle.std.proofs.lemmas.Option.{slice_get-get_or}
use Rattle.engine_courses.specs.Inner.{nearer, nearest_so_far}
use Rattle.engine_courses.specs.Nearest.{Candidate, is_nearer, least}

one_way : (d e k l : ℕ) → (ltb d e || (eqb d e && ltb k l)) ≡ true → (ltb e d || (eqb e d && ltb l k)) ≡ false
one_way d e k l h = grind (arith, nat_tests)

chain : (d e f k l m : ℕ) → (ltb d e || (eqb d e && ltb k l)) ≡ false → (ltb e f || (eqb e f && ltb l m)) ≡ false → (ltb d f || (eqb d f && ltb k m)) ≡ false
chain d e f k l m h g = grind (arith, nat_tests)

order : IsStrictWeakOrder is_nearer
order = record {
  one_way = λ a b. one_way a.0 b.0 a.1.1 b.1.1;
  chain = λ a b c. chain a.0 b.0 c.0 a.1.1 b.1.1 c.1.1;
}

some_best : (best : Candidate) (found : List Candidate) → fold nearer (Some best) found ≡ Some (best_of is_nearer best found)
some_best best [] = refl
some_best best (x ∷ found) = some_best (cond (is_nearer x best) x best) found

abbrev is_least : List Candidate → Candidate → Bool
is_least all a = not (list_any (λ b. is_nearer b a) all)

best_is : (a : Candidate) (found : List Candidate) → Some (best_of is_nearer a found) ≡ find (is_least (a ∷ found)) (a ∷ found)
best_is a found =
    let all : List Candidate = a ∷ found in
    let w = IsFirstBest-from_best_of order a found in
    let at : position_or_len (is_least all) all ≡ w.0 =
    position_or_len_is (is_least all) all w.0 a (omega (arith, w.1.0))
    (λ k below. ap not (list_any_at (λ b. is_nearer b (get_or all k a)) all w.0 a w.1.0 (w.1.2 k a below)))
    (λ _. ap not (list_any_none (λ b. is_nearer b (get_or all w.0 a)) all (λ k d within. ap (is_nearer (get_or all k d)) (get_or_default all w.0 a d w.1.0) ∙ w.1.1 k d within))) in
    ap Some (sym w.2) ∙ sym (slice_get-get_or all w.0 a w.1.0) ∙ ap (slice_get all) (sym at) ∙ sym (find_at (is_least all) all)

pub nearest_is : (found : List Candidate) → nearest_so_far found ≡ least found
unfolding least
nearest_is [] = refl
nearest_is (a ∷ found) = some_best a found ∙ best_is a found
