-- Elements of lists, and lists that are empty.
use Rattle.std.proofs.Common.{◌≡◌, ℕ, ◌<◌, Bool, true, false, cond, List, [], ◌∷◌, ◌++◌, length, get_or, map, refl, sym, ap, arith, suc, zero, ◌⊎◌, inl, inr, Contains, All}

-- x is an element
abbrev pub Has : {X : Type 0} → X → List X → Type 0
Has x [] = ⊥
Has x (y ∷ ys) = (x ≡ y) ⊎ Has x ys

pub contains : {X : Type 0} (x : X) (xs : List X) → Has x xs → Contains xs x
contains x [] h = absurd h
contains x (y ∷ ys) (inl e) = (0, omega arith, sym e)
contains x (y ∷ ys) (inr h) =
    let c = contains x ys h in
    (suc c.0, omega (arith, c.1), c.2)

pub has_at : {X : Type 0} (xs : List X) (k : ℕ) (d : X) → k < length xs → Has (get_or xs k d) xs
has_at [] k d h = absurd (omega arith)
has_at (x ∷ xs) zero d h = inl refl
has_at (x ∷ xs) (suc k) d h = inr (has_at xs k d (omega arith))

pub all_from_has : {X : Type 0} (P : X → Type 0) (xs : List X) → ((x : X) → Has x xs → P x) → All P xs
all_from_has P xs f = λ k d h. f (get_or xs k d) (has_at xs k d h)

pub has_map : {X Y : Type 0} (f : X → Y) (x : X) (xs : List X) → Has x xs → Has (f x) (map f xs)
has_map f x [] h = absurd h
has_map f x (y ∷ ys) (inl e) = inl (ap f e)
has_map f x (y ∷ ys) (inr h) = inr (has_map f x ys h)

pub prefix_empty : {X : Type 0} (xs ys : List X) → xs ++ ys ≡ [] → xs ≡ []
prefix_empty [] ys e = refl
prefix_empty (x ∷ xs) ys e = cc

pub back_empty : {X : Type 0} (xs ys : List X) → xs ++ ys ≡ [] → ys ≡ []
back_empty [] ys e = e
back_empty (x ∷ xs) ys e = cc

pub map_empty : {X Y : Type 0} (f : X → Y) (xs : List X) → map f xs ≡ [] → xs ≡ []
map_empty f [] e = refl
map_empty f (x ∷ xs) e = cc

pub not_reported : {X : Type 0} (x : X) (b : Bool) → cond b (x ∷ []) [] ≡ [] → b ≡ false
not_reported x true e = cc
not_reported x false e = refl
