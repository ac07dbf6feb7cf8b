-- A list without what is there twice.
use Rattle.std.proofs.Common.{length, get_or, ◌≡◌, ℕ, zero, suc, ◌+◌, ◌<◌, ◌≤◌, arith, map, Bool, true, false, cond, List, [], ◌∷◌, ◌++◌, filter, flat_map, fold, refl, sym, ◌∙◌, ap, subst, inl, inr, ◌⊎◌}
use Rattle.std.proofs.Math.Logic.{⊎_elim}
use Rattle.std.proofs.lemmas.Bool.{cases_order}
use Rattle.std.proofs.lemmas.Bool.Decides.{eqb_tells}
use Rattle.std.specs.List.{AllByRecursion, range_with_len}
use Rattle.std.specs.Ordering.{match_ordering}
use Rattle.std.specs.declared.cmp.Ordering.{Ordering}
use Rattle.std.specs.declared.cmp.Ordering.TheVariants.{Less, Equal, Greater}
use Rattle.trie_build.specs.Distinct.{distinct, inserted, IsDistinctOf, IsIn, Rises}
use Rattle.trie_build.proofs.TotalOrder.{IsOrder}

-- x before y, as y, or after it, as x is below y, the same or above it
abbrev pub placed : {A : Type 0} → Ordering → A → A → List A → List A → List A
placed o x y ys following = match_ordering o (x ∷ y ∷ ys) (y ∷ ys) (y ∷ following)

all_weaker : {A : Type 0} (P Q : A → Type 0) → ((x : A) → P x → Q x) → (xs : List A) → AllByRecursion P xs → AllByRecursion Q xs
all_weaker P Q w [] h = tt
all_weaker P Q w (x ∷ xs) h = (w x h.0, all_weaker P Q w xs h.1)

pub all_in : {A : Type 0} (P : A → Type 0) (x : A) (xs : List A) → AllByRecursion P xs → IsIn x xs → P x
all_in P x [] h i = absurd i
all_in P x (y ∷ ys) h (inl e) = subst P (sym e) h.0
all_in P x (y ∷ ys) h (inr i) = all_in P x ys h.1 i

module _ {A : Type 0} (cmp : A → A → Ordering) (order : IsOrder cmp) where
  place_all : (P : A → Type 0) (x : A) (ys : List A) → AllByRecursion P ys → P x → AllByRecursion P (inserted cmp x ys)
  place_all P x [] h p = (p, tt)
  place_all P x (y ∷ ys) h p = by (cmp x y) (place_all P x ys h.1 p) where
    by : (o : Ordering) → AllByRecursion P (inserted cmp x ys) → AllByRecursion P (placed o x y ys (inserted cmp x ys))
    by Less rest = (p, h)
    by Equal rest = h
    by Greater rest = (h.0, rest)

  place_rises : (x : A) (ys : List A) → Rises cmp ys → Rises cmp (inserted cmp x ys)
  place_rises x [] h = (tt, tt)
  place_rises x (y ∷ ys) h = by (cmp x y) refl (place_rises x ys h.1) where
    by : (o : Ordering) → cmp x y ≡ o → Rises cmp (inserted cmp x ys) → Rises cmp (placed o x y ys (inserted cmp x ys))
    by Less e rest = ((e, all_weaker (λ z. cmp y z ≡ Less) (λ z. cmp x z ≡ Less) (λ z less. order.trans x y z e less) ys h.0), h)
    by Equal e rest = h
    by Greater e rest = (place_all (λ z. cmp y z ≡ Less) x ys h.0 (order.reversed x y e), rest)

  place_has : (x : A) (ys : List A) → IsIn x (inserted cmp x ys)
  place_has x [] = inl refl
  place_has x (y ∷ ys) = by (cmp x y) refl (place_has x ys) where
    by : (o : Ordering) → cmp x y ≡ o → IsIn x (inserted cmp x ys) → IsIn x (placed o x y ys (inserted cmp x ys))
    by Less e rest = inl refl
    by Equal e rest = inl (order.same x y e)
    by Greater e rest = inr rest

  place_keeps : (x z : A) (ys : List A) → IsIn z ys → IsIn z (inserted cmp x ys)
  place_keeps x z [] i = absurd i
  place_keeps x z (y ∷ ys) i = by (cmp x y) (place_keeps x z ys) i where
    by : (o : Ordering) → (IsIn z ys → IsIn z (inserted cmp x ys)) → IsIn z (y ∷ ys) → IsIn z (placed o x y ys (inserted cmp x ys))
    by Less keep i = inr i
    by Equal keep i = i
    by Greater keep (inl e) = inl e
    by Greater keep (inr i) = inr (keep i)

  place_only : (x z : A) (ys : List A) → IsIn z (inserted cmp x ys) → (z ≡ x) ⊎ IsIn z ys
  place_only x z [] (inl e) = inl e
  place_only x z [] (inr i) = absurd i
  place_only x z (y ∷ ys) i = by (cmp x y) (place_only x z ys) i where
    by : (o : Ordering) → (IsIn z (inserted cmp x ys) → (z ≡ x) ⊎ IsIn z ys) → IsIn z (placed o x y ys (inserted cmp x ys)) → (z ≡ x) ⊎ IsIn z (y ∷ ys)
    by Less only (inl e) = inl e
    by Less only (inr i) = inr i
    by Equal only i = inr i
    by Greater only (inl e) = inr (inl e)
    by Greater only (inr i) = ⊎_elim (λ e. inl e) (λ rest. inr (inr rest)) (only i)

  fold_rises : (acc xs : List A) → Rises cmp acc → Rises cmp (fold (λ ys x. inserted cmp x ys) acc xs)
  fold_rises acc [] h = h
  fold_rises acc (x ∷ xs) h = fold_rises (inserted cmp x acc) xs (place_rises x acc h)

  fold_keeps : (z : A) (acc xs : List A) → IsIn z acc → IsIn z (fold (λ ys x. inserted cmp x ys) acc xs)
  fold_keeps z acc [] i = i
  fold_keeps z acc (x ∷ xs) i = fold_keeps z (inserted cmp x acc) xs (place_keeps x z acc i)

  fold_has : (z : A) (acc xs : List A) → IsIn z xs → IsIn z (fold (λ ys x. inserted cmp x ys) acc xs)
  fold_has z acc [] i = absurd i
  fold_has z acc (x ∷ xs) (inl e) = fold_keeps z (inserted cmp x acc) xs (subst (λ w. IsIn w (inserted cmp x acc)) (sym e) (place_has x acc))
  fold_has z acc (x ∷ xs) (inr i) = fold_has z (inserted cmp x acc) xs i

  fold_only : (z : A) (acc xs : List A) → IsIn z (fold (λ ys x. inserted cmp x ys) acc xs) → IsIn z acc ⊎ IsIn z xs
  fold_only z acc [] i = inl i
  fold_only z acc (x ∷ xs) i = ⊎_elim (λ a. ⊎_elim (λ e. inr (inl e)) (λ b. inl b) (place_only x z acc a)) (λ b. inr (inr b)) (fold_only z (inserted cmp x acc) xs i)

  pub distinct_is : (xs : List A) → IsDistinctOf cmp xs (distinct cmp xs)
  distinct_is xs = record {
    rises = fold_rises [] xs tt;
    has = λ x i. fold_has x [] xs i;
    only = λ x i. ⊎_elim (λ none. absurd none) (λ b. b) (fold_only x [] xs i);
  }

pub in_append : {A : Type 0} (z : A) (xs ys : List A) → IsIn z (xs ++ ys) → IsIn z xs ⊎ IsIn z ys
in_append z [] ys i = inr i
in_append z (x ∷ xs) ys (inl e) = inl (inl e)
in_append z (x ∷ xs) ys (inr i) = ⊎_elim (λ a. inl (inr a)) (λ b. inr b) (in_append z xs ys i)

pub append_left : {A : Type 0} (z : A) (xs ys : List A) → IsIn z xs → IsIn z (xs ++ ys)
append_left z [] ys i = absurd i
append_left z (x ∷ xs) ys (inl e) = inl e
append_left z (x ∷ xs) ys (inr i) = inr (append_left z xs ys i)

pub append_right : {A : Type 0} (z : A) (xs ys : List A) → IsIn z ys → IsIn z (xs ++ ys)
append_right z [] ys i = i
append_right z (x ∷ xs) ys i = inr (append_right z xs ys i)

pub in_flat_map : {A B : Type 0} (f : A → List B) (b : B) (xs : List A) → IsIn b (flat_map f xs) → (x : A) × IsIn x xs × IsIn b (f x)
in_flat_map f b [] i = absurd i
in_flat_map f b (x ∷ xs) i = ⊎_elim (λ here. (x, inl refl, here)) (λ there. let w = in_flat_map f b xs there in (w.0, inr w.1, w.2)) (in_append b (f x) (flat_map f xs) i)

pub flat_map_in : {A B : Type 0} (f : A → List B) (b : B) (x : A) (xs : List A) → IsIn x xs → IsIn b (f x) → IsIn b (flat_map f xs)
flat_map_in f b x [] i j = absurd i
flat_map_in f b x (y ∷ ys) (inl e) j = append_left b (f y) (flat_map f ys) (subst (λ w. IsIn b (f w)) e j)
flat_map_in f b x (y ∷ ys) (inr i) j = append_right b (f y) (flat_map f ys) (flat_map_in f b x ys i j)

pub in_filter : {A : Type 0} (p : A → Bool) (z : A) (xs : List A) → IsIn z (filter p xs) → IsIn z xs × (p z ≡ true)
in_filter p z [] i = absurd i
in_filter p z (x ∷ xs) i = by (p x) refl (λ j. in_filter p z xs j) i where
  by : (v : Bool) → p x ≡ v → (IsIn z (filter p xs) → IsIn z xs × (p z ≡ true)) → IsIn z (cond v (x ∷ filter p xs) (filter p xs)) → IsIn z (x ∷ xs) × (p z ≡ true)
  by true e again (inl same) = (inl same, ap p same ∙ e)
  by true e again (inr rest) = let w = again rest in (inr w.0, w.1)
  by false e again rest = let w = again rest in (inr w.0, w.1)

pub filter_in : {A : Type 0} (p : A → Bool) (z : A) (xs : List A) → IsIn z xs → p z ≡ true → IsIn z (filter p xs)
filter_in p z [] i h = absurd i
filter_in p z (x ∷ xs) (inl e) h = subst (λ v. IsIn z (cond v (x ∷ filter p xs) (filter p xs))) (sym (ap p (sym e) ∙ h)) (inl e)
filter_in p z (x ∷ xs) (inr i) h = elim (p x) as (λ v. IsIn z (cond v (x ∷ filter p xs) (filter p xs))) [ true ↦ inr (filter_in p z xs i h) | false ↦ filter_in p z xs i h ]

all_from : {A : Type 0} (P : A → Type 0) (xs : List A) → ((x : A) → IsIn x xs → P x) → AllByRecursion P xs
all_from P [] h = tt
all_from P (x ∷ xs) h = (h x (inl refl), all_from P xs (λ y i. h y (inr i)))

module _ {A : Type 0} (cmp : A → A → Ordering) where
  pub rises_append : (xs ys : List A) → Rises cmp xs → Rises cmp ys → ((x y : A) → IsIn x xs → IsIn y ys → cmp x y ≡ Less) → Rises cmp (xs ++ ys)
  rises_append [] ys h k below = k
  rises_append (x ∷ xs) ys h k below = (
    all_from (λ y. cmp x y ≡ Less) (xs ++ ys) (λ y i. ⊎_elim (λ a. all_in (λ z. cmp x z ≡ Less) y xs h.0 a) (λ b. below x y (inl refl) b) (in_append y xs ys i)),
    rises_append xs ys h.1 k (λ a b i j. below a b (inr i) j),
  )

  pub rises_flat_map : (f : A → List A) → ((x : A) → Rises cmp (f x)) → ((x y a b : A) → cmp x y ≡ Less → IsIn a (f x) → IsIn b (f y) → cmp a b ≡ Less)
      → (xs : List A) → Rises cmp xs → Rises cmp (flat_map f xs)
  rises_flat_map f each below [] h = tt
  rises_flat_map f each below (x ∷ xs) h =
      rises_append (f x) (flat_map f xs) (each x) (rises_flat_map f each below xs h.1)
      (λ a b i j. let w = in_flat_map f b xs j in below x w.0 a b (all_in (λ z. cmp x z ≡ Less) w.0 xs h.0 w.1) i w.2)

  pub rises_filter : (p : A → Bool) (xs : List A) → Rises cmp xs → Rises cmp (filter p xs)
  rises_filter p [] h = tt
  rises_filter p (x ∷ xs) h = elim (p x) as (λ v. Rises cmp (cond v (x ∷ filter p xs) (filter p xs))) [
    | true ↦ (all_from (λ y. cmp x y ≡ Less) (filter p xs) (λ y i. all_in (λ z. cmp x z ≡ Less) y xs h.0 (in_filter p y xs i).0), rises_filter p xs h.1)
    | false ↦ rises_filter p xs h.1
  ]

  module _ (order : IsOrder cmp) where
    not_below : (x y : A) → x ≡ y → cmp x y ≡ Less → ⊥
    not_below x y e less = let tie : cmp x y ≡ Equal = ap (cmp x) (sym e) ∙ order.itself x in cc

    -- rising lists that have the same are one
    pub one_list : (xs ys : List A) → Rises cmp xs → Rises cmp ys → ((z : A) → IsIn z xs → IsIn z ys) → ((z : A) → IsIn z ys → IsIn z xs) → xs ≡ ys
    one_list [] [] h k to fro = refl
    one_list [] (y ∷ ys) h k to fro = absurd (fro y (inl refl))
    one_list (x ∷ xs) [] h k to fro = absurd (to x (inl refl))
    one_list (x ∷ xs) (y ∷ ys) h k to fro =
        let head : x ≡ y = ⊎_elim (λ e. e) (λ i. ⊎_elim (λ e. sym e) (λ j. absurd (not_below x x refl (order.trans x y x (all_in (λ z. cmp x z ≡ Less) y xs h.0 j) (all_in (λ z. cmp y z ≡ Less) x ys k.0 i))))
        (fro y (inl refl))) (to x (inl refl)) in
        let tail : xs ≡ ys = one_list xs ys h.1 k.1
        (λ z i. ⊎_elim (λ e. absurd (not_below x z (head ∙ sym e) (all_in (λ w. cmp x w ≡ Less) z xs h.0 i))) (λ j. j) (to z (inr i)))
        (λ z i. ⊎_elim (λ e. absurd (not_below y z (sym head ∙ sym e) (all_in (λ w. cmp y w ≡ Less) z ys k.0 i))) (λ j. j) (fro z (inr i))) in
        ap (λ w. w ∷ xs) head ∙ ap (λ l. y ∷ l) tail

pub in_map : {A B : Type 0} (f : A → B) (b : B) (xs : List A) → IsIn b (map f xs) → (x : A) × IsIn x xs × (b ≡ f x)
in_map f b [] i = absurd i
in_map f b (x ∷ xs) (inl e) = (x, inl refl, e)
in_map f b (x ∷ xs) (inr i) = let w = in_map f b xs i in (w.0, inr w.1, w.2)

pub map_in : {A B : Type 0} (f : A → B) (x : A) (xs : List A) → IsIn x xs → IsIn (f x) (map f xs)
map_in f x [] i = absurd i
map_in f x (y ∷ ys) (inl e) = inl (ap f e)
map_in f x (y ∷ ys) (inr i) = inr (map_in f x ys i)

pub in_range : (n a k : ℕ) → IsIn n (range_with_len a k) → (a ≤ n) × (n < a + k)
in_range n a zero i = absurd i
in_range n a (suc k) (inl e) = (omega arith, omega arith)
in_range n a (suc k) (inr i) = let w = in_range n (a + 1) k i in (omega (arith, w.0), omega (arith, w.1))

pub range_in : (n a k : ℕ) → a ≤ n → n < a + k → IsIn n (range_with_len a k)
range_in n a zero h l = absurd (omega arith)
range_in n a (suc k) h l = elim (eqb_tells n a) [
  | inl e ↦ inl e.1
  | inr e ↦ inr (range_in n (a + 1) k (⊎_elim (λ less. absurd (omega arith)) (λ rest. ⊎_elim (λ same. absurd (e.1 same)) (λ more. omega arith) rest) (three n a)) (omega arith))
] where
  three : (x y : ℕ) → (x < y) ⊎ ((x ≡ y) ⊎ (y < x))
  three x y = ⊎_elim (λ same. inr (inl same)) (λ rest. ⊎_elim (λ less. inl less) (λ more. inr (inr more)) rest) (cases_order x y)

-- what is in a list has a place there
pub in_get : {A : Type 0} (d x : A) (xs : List A) → IsIn x xs → (i : ℕ) × (i < length xs) × (x ≡ get_or xs i d)
in_get d x [] h = absurd h
in_get d x (y ∷ ys) (inl e) = (0, omega arith, e)
in_get d x (y ∷ ys) (inr i) = let w = in_get d x ys i in (suc w.0, omega (arith, w.1), w.2)

pub get_in : {A : Type 0} (d : A) (xs : List A) (i : ℕ) → i < length xs → IsIn (get_or xs i d) xs
get_in d [] i h = absurd (omega arith)
get_in d (x ∷ xs) zero h = inl refl
get_in d (x ∷ xs) (suc i) h = inr (get_in d xs i (omega arith))
