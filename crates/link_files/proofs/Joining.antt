-- Texts with a byte between each two, put together one by one.
use Rattle.std.proofs.Common.{◌≡◌, ℕ, List, ◌∷◌, [], ◌++◌, ◌∙◌, ◌+◌, ◌<◌, suc, add-one, ap, append_assoc, drop, drop-cons, get_or, length, map, sym}
use Rattle.std.specs.List.{join_with_byte}

-- one text more after the byte
join_more : (c : ℕ) (path next : List ℕ) (rest : List (List ℕ))
    → join_with_byte c (((path ++ c ∷ []) ++ next) ∷ rest) ≡ join_with_byte c (path ∷ next ∷ rest)
join_more c path next [] = append_assoc path (c ∷ []) next
join_more c path next (d ∷ rest) =
    ap (λ prefix. prefix ++ c ∷ join_with_byte c (d ∷ rest)) (append_assoc path (c ∷ []) next) ∙ append_assoc path (c ∷ next) (c ∷ join_with_byte c (d ∷ rest))

-- a list from an index on begins with the item there
from_index : {X : Type 0} (xs : List X) (i : ℕ) (x : X) → i < length xs → x ≡ get_or xs i x → drop i xs ≡ x ∷ drop (i + 1) xs
from_index xs i x lt is = rw add-one (drop-cons xs i x lt ∙ ap (λ y. y ∷ drop (suc i) xs) (sym is))

-- the next item's text is put onto what was put together so far
pub join_next : {X Y : Type 0} (c : ℕ) (text_of : Y → List ℕ) (view : X → Y) (xs : List X) (i : ℕ) (x : X) (path both whole : List ℕ)
    → i < length xs → x ≡ get_or xs i x → both ≡ (path ++ c ∷ []) ++ text_of (view x)
    → join_with_byte c (path ∷ map text_of (map view (drop i xs))) ≡ whole
    → join_with_byte c (both ∷ map text_of (map view (drop (i + 1) xs))) ≡ whole
join_next c text_of view xs i x path both whole lt is e h =
    ap (λ t. join_with_byte c (t ∷ map text_of (map view (drop (i + 1) xs)))) e
    ∙ join_more c path (text_of (view x)) (map text_of (map view (drop (i + 1) xs)))
    ∙ ap (λ ys. join_with_byte c (path ∷ map text_of (map view ys))) (sym (from_index xs i x lt is))
    ∙ h
