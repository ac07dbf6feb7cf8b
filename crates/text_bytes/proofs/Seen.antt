-- A test of values as they are seen is a test of what is seen of them.
use Rattle.std.proofs.Common.{◌≡◌, ◌&&◌, ◌||◌, Bool, List, [], ◌∷◌, ap, map, refl}
use Rattle.std.specs.List.{list_all, list_any}

pub any_seen : {A B : Type 0} (P : B → Bool) (f : A → B) (xs : List A) → list_any (λ x. P (f x)) xs ≡ list_any P (map f xs)
any_seen P f [] = refl
any_seen P f (x ∷ xs) = ap (λ b. P (f x) || b) (any_seen P f xs)

pub all_seen : {A B : Type 0} (P : B → Bool) (f : A → B) (xs : List A) → list_all P (map f xs) ≡ list_all (λ x. P (f x)) xs
all_seen P f [] = refl
all_seen P f (x ∷ xs) = ap (λ b. P (f x) && b) (all_seen P f xs)
