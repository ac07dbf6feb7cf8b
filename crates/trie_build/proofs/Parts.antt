-- Lists that grow by one, and lists that rise.
use Rattle.std.proofs.Common.{◌≡◌, ℕ, zero, suc, ◌+◌, ◌-◌, ◌<◌, ◌≤◌, List, [], ◌∷◌, ◌++◌, length, take, drop, map, flat_map, get_or, refl, sym, ◌∙◌, ap, arith, zero-add, append_assoc}
use Rattle.std.proofs.lemmas.List.{append-nil, get_or-drop, get_or-take, length-drop, length-take-le, map-append, take_more}
use Rattle.std.proofs.Math.Logic.{⊎_elim}
use Rattle.std.proofs.lemmas.Bool.{cases_order}
use Rattle.std.proofs.lemmas.List.Concat.{flat_map-append}
use Rattle.std.specs.List.{AllByRecursion, range_with_len}
use Rattle.std.specs.declared.cmp.Ordering.{Ordering}
use Rattle.std.specs.declared.cmp.Ordering.TheVariants.{Less, Equal}
use Rattle.trie_nodes.proofs.Pieces.{range-append}
use Rattle.trie_build.specs.Distinct.{Rises}
use Rattle.trie_build.proofs.TotalOrder.{IsOrder}
use Rattle.trie_build.proofs.Distinguishing.{all_in, get_in}

all_at : {A : Type 0} (P : A → Type 0) (d : A) (xs : List A) → ((k : ℕ) → k < length xs → P (get_or xs k d)) → AllByRecursion P xs
all_at P d [] h = tt
all_at P d (x ∷ xs) h = (h 0 (omega arith), all_at P d xs (λ k less. h (suc k) (omega arith)))

-- of a rising list an earlier element is below a later one
pub rises_apart : {A : Type 0} (cmp : A → A → Ordering) (xs : List A) → Rises cmp xs → (i j : ℕ) (d : A) → i < j → j < length xs → cmp (get_or xs i d) (get_or xs j d) ≡ Less
rises_apart cmp [] up i j d h k = absurd (omega arith)
rises_apart cmp (x ∷ xs) up zero zero d h k = absurd (omega arith)
rises_apart cmp (x ∷ xs) up zero (suc j) d h k = all_in (λ y. cmp x y ≡ Less) (get_or xs j d) xs up.0 (get_in d xs j (omega arith))
rises_apart cmp (x ∷ xs) up (suc i) zero d h k = absurd (omega arith)
rises_apart cmp (x ∷ xs) up (suc i) (suc j) d h k = rises_apart cmp xs up.1 i j d (omega arith) (omega arith)

-- places of a rising list with one element are one
pub one_place : {A : Type 0} (cmp : A → A → Ordering) (order : IsOrder cmp) (xs : List A) → Rises cmp xs → (i j : ℕ) (d : A) → i < length xs → j < length xs → get_or xs i d ≡ get_or xs j d → i ≡ j
one_place cmp order xs up i j d h k e = ⊎_elim (λ same. same) (λ rest. absurd (⊎_elim
    (λ less. let below = rises_apart cmp xs up i j d less k in let tie : cmp (get_or xs i d) (get_or xs j d) ≡ Equal = ap (cmp (get_or xs i d)) (sym e) ∙ order.itself (get_or xs i d) in cc)
    (λ more. let below = rises_apart cmp xs up j i d more h in let tie : cmp (get_or xs j d) (get_or xs i d) ≡ Equal = ap (cmp (get_or xs j d)) e ∙ order.itself (get_or xs j d) in cc) rest)) (cases_order i j)

-- a list of which each element is below the later ones rises
pub rises_by : {A : Type 0} (cmp : A → A → Ordering) (d : A) (xs : List A) → ((i j : ℕ) → i < j → j < length xs → cmp (get_or xs i d) (get_or xs j d) ≡ Less) → Rises cmp xs
rises_by cmp d [] h = tt
rises_by cmp d (x ∷ xs) h = (all_at (λ y. cmp x y ≡ Less) d xs (λ j k. h 0 (suc j) (omega arith) (omega arith)), rises_by cmp d xs (λ i j less k. h (suc i) (suc j) (omega arith) (omega arith)))

rises_drop : {A : Type 0} (cmp : A → A → Ordering) (k : ℕ) (xs : List A) → Rises cmp xs → Rises cmp (drop k xs)
rises_drop cmp zero xs up = up
rises_drop cmp (suc k) [] up = tt
rises_drop cmp (suc k) (x ∷ xs) up = rises_drop cmp k xs up.1

all_take : {A : Type 0} (P : A → Type 0) (k : ℕ) (xs : List A) → AllByRecursion P xs → AllByRecursion P (take k xs)
all_take P zero xs h = tt
all_take P (suc k) [] h = tt
all_take P (suc k) (x ∷ xs) h = (h.0, all_take P k xs h.1)

rises_take : {A : Type 0} (cmp : A → A → Ordering) (k : ℕ) (xs : List A) → Rises cmp xs → Rises cmp (take k xs)
rises_take cmp zero xs up = tt
rises_take cmp (suc k) [] up = tt
rises_take cmp (suc k) (x ∷ xs) up = (all_take (λ y. cmp x y ≡ Less) k xs up.0, rises_take cmp k xs up.1)

-- a part of a rising list rises
pub rises_part : {A : Type 0} (cmp : A → A → Ordering) (n a : ℕ) (xs : List A) → Rises cmp xs → Rises cmp (take n (drop a xs))
rises_part cmp n a xs up = rises_take cmp n (drop a xs) (rises_drop cmp a xs up)

-- what is at a place of a part
pub part_at : {A : Type 0} (n a k : ℕ) (xs : List A) (d : A) → k < n → get_or (take n (drop a xs)) k d ≡ get_or xs (a + k) d
part_at n a k xs d h = get_or-take n (drop a xs) k d h ∙ get_or-drop a xs k d

pub length_part : {A : Type 0} (n a : ℕ) (xs : List A) → a + n ≤ length xs → length (take n (drop a xs)) ≡ n
length_part n a xs h =
    let len : length (drop a xs) ≡ length xs - a = length-drop a xs in
    length-take-le n (drop a xs) (omega (arith, len))

-- one number more
pub mapped_more : {A : Type 0} (g : ℕ → A) (i : ℕ) → map g (range_with_len 0 (i + 1)) ≡ map g (range_with_len 0 i) ++ g i ∷ []
mapped_more g i = sym (ap (map g) (range-append 0 i 1)) ∙ map-append g (range_with_len 0 i) (range_with_len (0 + i) 1) ∙ ap (λ n. map g (range_with_len 0 i) ++ g n ∷ []) (zero-add i)

pub pieces_more : {A B : Type 0} (f : A → List B) (g : ℕ → A) (i : ℕ) → flat_map f (map g (range_with_len 0 (i + 1))) ≡ flat_map f (map g (range_with_len 0 i)) ++ f (g i)
pieces_more f g i = ap (flat_map f) (mapped_more g i) ∙ flat_map-append f (map g (range_with_len 0 i)) (g i ∷ []) ∙ ap (λ l. flat_map f (map g (range_with_len 0 i)) ++ l) (append-nil (f (g i)))

-- one element more
pub taken_more : {A B : Type 0} (f : A → List B) (xs : List A) (i : ℕ) (d : A) → i < length xs → flat_map f (take (i + 1) xs) ≡ flat_map f (take i xs) ++ f (get_or xs i d)
taken_more f xs i d h = ap (flat_map f) (take_more xs i d h) ∙ flat_map-append f (take i xs) (get_or xs i d ∷ []) ∙ ap (λ l. flat_map f (take i xs) ++ l) (append-nil (f (get_or xs i d)))

-- pieces of what is mapped
pub flat_mapped : {A B C : Type 0} (f : B → List C) (g : A → B) (xs : List A) → flat_map f (map g xs) ≡ flat_map (λ x. f (g x)) xs
flat_mapped f g [] = refl
flat_mapped f g (x ∷ xs) = ap (λ l. f (g x) ++ l) (flat_mapped f g xs)

-- a piece more, added at once or in two parts
pub one_more : (new out start prefix next piece : List ℕ) → new ≡ out ++ piece → out ≡ start ++ prefix → next ≡ prefix ++ piece → new ≡ start ++ next
one_more new out start prefix next piece e f g = e ∙ ap (λ l. l ++ piece) f ∙ append_assoc start prefix piece ∙ ap (λ l. start ++ l) (sym g)

pub two_more : (new mid out start prefix next a b : List ℕ) → new ≡ mid ++ b → mid ≡ out ++ a → out ≡ start ++ prefix → next ≡ prefix ++ (a ++ b) → new ≡ start ++ next
two_more new mid out start prefix next a b e m f g = one_more new out start prefix next (a ++ b) (e ∙ ap (λ l. l ++ b) m ∙ append_assoc out a b) f g

-- the same by number and in a list
pub map_numbered : {A B : Type 0} (f : ℕ → B) (g : A → B) (xs : List A) (d : A) (a : ℕ) → ((k : ℕ) → k < length xs → f (a + k) ≡ g (get_or xs k d)) → map f (range_with_len a (length xs)) ≡ map g xs
map_numbered f g [] d a same = refl
map_numbered f g (x ∷ xs) d a same =
    let first : f a ≡ g x = ap f (add_none a) ∙ same 0 (omega arith) in
    let rest : map f (range_with_len (a + 1) (length xs)) ≡ map g xs = map_numbered f g xs d (a + 1) (λ k h. ap f (moved a k) ∙ same (suc k) (omega arith)) in
    ap (λ y. y ∷ map f (range_with_len (a + 1) (length xs))) first ∙ ap (λ l. g x ∷ l) rest
  where
    add_none : (n : ℕ) → n ≡ n + 0
    add_none n = omega arith

    moved : (n k : ℕ) → (n + 1) + k ≡ n + suc k
    moved n k = omega arith

-- a list mapped twice
pub map_twice : {X Y Z : Type 0} (g : Y → Z) (f : X → Y) (xs : List X) → map (λ x. g (f x)) xs ≡ map g (map f xs)
map_twice g f [] = refl
map_twice g f (x ∷ xs) = ap (λ l. g (f x) ∷ l) (map_twice g f xs)
