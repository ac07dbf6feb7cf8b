-- What is found among values as they are seen.
use Rattle.std.proofs.Common.{◌≡◌, ◌∙◌, Bool, true, false, cond, List, [], ◌∷◌, Option, Some, ap, find, map, option_map, refl, sym}

-- to find among texts as they are seen is to find among them, and to see that
find_seen : {A B : Type 0} (P : B → Bool) (f : A → B) (xs : List A) → find P (map f xs) ≡ option_map f (find (λ x. P (f x)) xs)
find_seen P f [] = refl
find_seen P f (x ∷ xs) = by (P (f x)) (find_seen P f xs)
  where
    by : (b : Bool) → find P (map f xs) ≡ option_map f (find (λ x. P (f x)) xs)
        → cond b (Some (f x)) (find P (map f xs)) ≡ option_map f (cond b (Some x) (find (λ x. P (f x)) xs))
    by true rest = refl
    by false rest = rest

-- what is found among texts, as it is seen, is what is found among the texts as they are seen
pub found_seen : {A B : Type 0} (P : B → Bool) (f : A → B) (xs : List A) (found : Option A) → found ≡ find (λ x. P (f x)) xs → option_map f found ≡ find P (map f xs)
found_seen P f xs found is = ap (option_map f) is ∙ sym (find_seen P f xs)
