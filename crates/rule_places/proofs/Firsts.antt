-- Lines that correspond one by one, from the first on.
use Rattle.std.proofs.Common.{◌≡◌, Bool, true, ◌&&◌, List, [], ◌∷◌, drop, Some, ap, sym, ◌∙◌}
use Rattle.std.specs.Cmp.Lexicographic.{pointwise}
use Rattle.text_bytes.specs.Texts.{first}

same_first : {X : Type 0} (a b : X) (rest : List X) → Some a ≡ Some b → a ∷ rest ≡ b ∷ rest
same_first a b rest e = cc

pub cut_first : {X : Type 0} (xs : List X) (x : X) → first xs ≡ Some x → xs ≡ x ∷ drop 1 xs
cut_first [] x h = cc
cut_first (y ∷ xs) x h = same_first y x xs h

-- two lists correspond as the others do if the first do
pub others_alike : {X : Type 0} (f : X → X → Bool) (xs ys more most : List X) (x : X) (same whole : Bool) → first xs ≡ Some x
    → ((rest : List X) → pointwise f (x ∷ rest) ys ≡ (same && pointwise f rest (drop 1 ys))) → same ≡ true → more ≡ drop 1 xs → most ≡ drop 1 ys
    → pointwise f xs ys ≡ whole → pointwise f more most ≡ whole
others_alike {X = X} f xs ys more most x same whole h e s m n w =
    ap (λ (zs : List X). pointwise f zs most) m
    ∙ ap (pointwise f (drop 1 xs)) n
    ∙ sym (ap (λ (b : Bool). b && pointwise f (drop 1 xs) (drop 1 ys)) s)
    ∙ sym (e (drop 1 xs))
    ∙ ap (λ (zs : List X). pointwise f zs ys) (sym (cut_first xs x h))
    ∙ w
