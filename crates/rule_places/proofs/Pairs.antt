-- Lists that agree pair by pair.
use Rattle.std.proofs.Common.{◌≡◌, ◌≢◌, suc, Bool, true, false, ◌&&◌, ◌==◌, List, ◌∷◌, [], length, refl, sym, ◌∙◌, ap, arith}
use Rattle.std.specs.Cmp.Lexicographic.{pointwise}
use Rattle.std.specs.List.{list_all, zip}

swapped : (e n a : Bool) → (n && (e && a)) ≡ (e && (n && a))
swapped true n a = refl
swapped false true a = refl
swapped false false a = refl

-- lists agree if they are as long, and all pairs of them agree
pub pairs_agree : {A B : Type 0} (E : A → B → Bool) (xs : List A) (ys : List B) → (length xs == length ys && list_all (λ p. E p.0 p.1) (zip xs ys)) ≡ pointwise E xs ys
pairs_agree E [] [] = refl
pairs_agree E [] (y ∷ ys) = let e : (0 == suc (length ys)) ≡ false = grind arith in rw e refl
pairs_agree E (x ∷ xs) [] = let e : (suc (length xs) == 0) ≡ false = grind arith in rw e refl
pairs_agree E (x ∷ xs) (y ∷ ys) =
    let e : (suc (length xs) == suc (length ys)) ≡ (length xs == length ys) = grind arith in
    rw e
    (swapped (E x y) (length xs == length ys) (list_all (λ p. E p.0 p.1) (zip xs ys)) ∙ ap (λ (b : Bool). E x y && b) (pairs_agree E xs ys))

-- lists that are as long agree if all pairs of them agree
pub pairs_of_like : {A B : Type 0} (E : A → B → Bool) (xs : List A) (ys : List B) → length xs ≡ length ys → list_all (λ p. E p.0 p.1) (zip xs ys) ≡ pointwise E xs ys
pairs_of_like E xs ys h =
    let e : (length xs == length ys) ≡ true = grind (arith, h) in
    ap (λ (b : Bool). b && list_all (λ p. E p.0 p.1) (zip xs ys)) (sym e) ∙ pairs_agree E xs ys

-- lists of two lengths do not agree
pub pairs_of_unlike : {A B : Type 0} (E : A → B → Bool) (xs : List A) (ys : List B) → length xs ≢ length ys → (length xs == length ys) ≡ pointwise E xs ys
pairs_of_unlike E xs ys h =
    let e : (length xs == length ys) ≡ false = grind (arith, h) in
    e ∙ ap (λ (b : Bool). b && list_all (λ p. E p.0 p.1) (zip xs ys)) (sym e) ∙ pairs_agree E xs ys
