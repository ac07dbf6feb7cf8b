-- Texts with a byte between each two, put together one by one.
use Rattle.std.proofs.Common.{◌≡◌, ℕ, List, ◌∷◌, [], ◌++◌, ◌∙◌, ap, append_assoc}
use Rattle.std.specs.List.{join_with_byte}

-- one text more after the byte
pub join_more : (c : ℕ) (path next : List ℕ) (rest : List (List ℕ))
    → join_with_byte c (((path ++ c ∷ []) ++ next) ∷ rest) ≡ join_with_byte c (path ∷ next ∷ rest)
join_more c path next [] = append_assoc path (c ∷ []) next
join_more c path next (d ∷ rest) =
    ap (λ prefix. prefix ++ c ∷ join_with_byte c (d ∷ rest)) (append_assoc path (c ∷ []) next) ∙ append_assoc path (c ∷ next) (c ∷ join_with_byte c (d ∷ rest))
