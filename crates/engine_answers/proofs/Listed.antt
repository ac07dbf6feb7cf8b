-- Lines that are written one after another, by the places of what they say.
use Rattle.std.proofs.Common.{◌≡◌, ℕ, ◌+◌, ◌<◌, List, ◌∷◌, ◌++◌, drop, length, get_or, flat_map, refl, ap, sym, ◌∙◌, append_assoc, drop-cons, add-one}

-- one more line is there, and one less is left
pub one_line_on : {A : Type 0} (line : A → List ℕ) (all : List A) (place : ℕ) (x d : A) (before now whole : List ℕ) → place < length all → x ≡ get_or all place d → now ≡ before ++ line x → before ++ flat_map line (drop place all) ≡ whole
    → now ++ flat_map line (drop (place + 1) all) ≡ whole
one_line_on line all place x d before now whole within is wrote h =
    let left : drop place all ≡ get_or all place d ∷ drop (place + 1) all = rw (add-one, drop-cons all place d within) refl in
    ap (λ l. l ++ flat_map line (drop (place + 1) all)) wrote
    ∙ append_assoc before (line x) (flat_map line (drop (place + 1) all))
    ∙ ap (λ y. before ++ (line y ++ flat_map line (drop (place + 1) all))) is
    ∙ sym (ap (λ xs. before ++ flat_map line xs) left)
    ∙ h
