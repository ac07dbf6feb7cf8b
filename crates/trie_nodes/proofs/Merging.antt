-- The nodes that go on, met in rising order: those that take a byte, the stars that stay, and the stars under nodes that were met.
use Rattle.std.proofs.Common.{◌≡◌, ℕ, suc, ◌+◌, ◌<◌, ◌≤◌, Bool, true, false, ◌||◌, cond, List, ◌∷◌, [], ◌++◌, filter, refl, sym, inl, inr, ◌⊎◌, zero, ◌-◌, min, ◌∙◌, ap, subst, arith, append_assoc, append-nil, eqb, eq-eqb}
use Rattle.std.proofs.lemmas.Bool.Decides.{eqb_tells, leb_tells}
use Rattle.std.proofs.lemmas.Bool.{cases_Bool, or_from, false_from_ne_true, true_from_ne_false}
use Rattle.std.specs.List.{range_with_len, AllByRecursion, flat_map}
use Rattle.trie_nodes.specs.Merge.{first_or, past}

-- the first of a list is n or more
abbrev pub IsFrom : ℕ → List ℕ → Type 0
IsFrom n [] = Unit {0}
IsFrom n (x ∷ xs) = n ≤ x

pub from_least : (n end : ℕ) (xs : List ℕ) → n ≤ first_or end xs → IsFrom n xs
from_least n end [] h = tt
from_least n end (x ∷ xs) h = h

from_below : (n m : ℕ) (xs : List ℕ) → n ≤ m → IsFrom m xs → IsFrom n xs
from_below n m [] le h = tt
from_below n m (x ∷ xs) le h = omega arith

or_true : (a : Bool) → a || true ≡ true
or_true true = refl
or_true false = refl

which : (a b c : ℕ) {n : ℕ} → n ≡ min a (min b c) → (a ≡ n) ⊎ ((b ≡ n) ⊎ (c ≡ n))
which a b c {n} e = elim (leb_tells a (min b c)) [
  | inl h ↦ inl (omega (arith, h.1))
  | inr h ↦ elim (leb_tells b c) [ inl k ↦ inr (inl (omega (arith, h.1, k.1))) | inr k ↦ inr (inr (omega (arith, h.1, k.1))) ]
]

from_all : (n : ℕ) (xs : List ℕ) → AllByRecursion (λ c. n < c) xs → IsFrom (n + 1) xs
from_all n [] h = tt
from_all n (x ∷ xs) h = omega (arith, h.0)

from_append : (n : ℕ) (xs ys : List ℕ) → IsFrom n xs → IsFrom n ys → IsFrom n (xs ++ ys)
from_append n [] ys h k = k
from_append n (x ∷ xs) ys h k = h

all_append : (P : ℕ → Type 0) (xs ys : List ℕ) → AllByRecursion P xs → AllByRecursion P ys → AllByRecursion P (xs ++ ys)
all_append P [] ys h k = k
all_append P (x ∷ xs) ys h k = (h.0, all_append P xs ys h.1 k)

all_beyond : (n m : ℕ) (xs : List ℕ) → n ≤ m → AllByRecursion (λ c. m < c) xs → AllByRecursion (λ c. n < c) xs
all_beyond n m [] le h = tt
all_beyond n m (x ∷ xs) le h = (omega (arith, h.0), all_beyond n m xs le h.1)

past_none : (n : ℕ) (xs : List ℕ) → IsFrom (n + 1) xs → past n xs ≡ xs
past_none n [] h = refl
past_none n (x ∷ xs) h = elim (eqb_tells x n) [
  | inl e ↦ absurd (omega (arith, e.1))
  | inr e ↦ ap (λ v. cond v xs (x ∷ xs)) e.0
]

pub past_here : (n : ℕ) (xs : List ℕ) → past n (n ∷ xs) ≡ xs
past_here n xs = ap (λ v. cond v xs (n ∷ xs)) (eq-eqb n n refl)

past-append : (n : ℕ) (xs ys : List ℕ) → IsFrom (n + 1) ys → past n xs ++ ys ≡ past n (xs ++ ys)
past-append n [] ys h = sym (past_none n ys h)
past-append n (x ∷ xs) ys h = elim (eqb x n) as (λ v. cond v xs (x ∷ xs) ++ ys ≡ cond v (xs ++ ys) (x ∷ (xs ++ ys))) [ true ↦ refl | false ↦ refl ]

module _ (p : ℕ → Bool) where
  -- what passes from a place on
  abbrev pub passing : ℕ → ℕ → List ℕ
  passing n r = filter p (range_with_len n r)

  pub passing_beyond : (n a r : ℕ) → n < a → AllByRecursion (λ c. n < c) (passing a r)
  passing_beyond n a zero h = tt
  passing_beyond n a (suc r) h =
      let rest : AllByRecursion (λ c. n < c) (filter p (range_with_len (a + 1) r)) = passing_beyond n (a + 1) r (omega arith) in
      elim (p a) as (λ v. AllByRecursion (λ c. n < c) (cond v (a ∷ filter p (range_with_len (a + 1) r)) (filter p (range_with_len (a + 1) r)))) [ true ↦ (h, rest) | false ↦ rest ]

  passing_here : (n r : ℕ) → p n ≡ true → passing n (suc r) ≡ n ∷ passing (n + 1) r
  passing_here n r h = ap (λ v. cond v (n ∷ filter p (range_with_len (n + 1) r)) (filter p (range_with_len (n + 1) r))) h

  passing_not : (n r : ℕ) → p n ≡ false → passing n (suc r) ≡ passing (n + 1) r
  passing_not n r h = ap (λ v. cond v (n ∷ filter p (range_with_len (n + 1) r)) (filter p (range_with_len (n + 1) r))) h

  -- if the first is later, the place itself does not pass
  not_here : (n r : ℕ) (xs : List ℕ) → xs ≡ passing n (suc r) → IsFrom (n + 1) xs → p n ≡ false
  not_here n r xs e h = false_from_ne_true (p n) (λ yes.
      let later : n + 1 ≤ n = subst (IsFrom (n + 1)) (e ∙ passing_here n r yes) h in omega arith)

  passing_past : (n r : ℕ) (xs : List ℕ) → xs ≡ passing n (suc r) → past n xs ≡ passing (n + 1) r
  passing_past n r xs e = elim (cases_Bool (p n)) [
    | inl here ↦ ap (past n) (e ∙ passing_here n r here) ∙ past_here n (passing (n + 1) r)
    | inr not ↦ ap (past n) (e ∙ passing_not n r not) ∙ past_none n (passing (n + 1) r) (from_all n (passing (n + 1) r) (passing_beyond n (n + 1) r (omega arith)))
  ]

  below_all : (n r k : ℕ) → n + r ≤ k → AllByRecursion (λ c. c < k) (passing n r)
  below_all n zero k h = tt
  below_all n (suc r) k h =
      let rest : AllByRecursion (λ c. c < k) (passing (n + 1) r) = below_all (n + 1) r k (omega arith) in
      elim (p n) as (λ v. AllByRecursion (λ c. c < k) (cond v (n ∷ passing (n + 1) r) (passing (n + 1) r))) [ true ↦ (omega arith, rest) | false ↦ rest ]

  pub passing_below : {k : ℕ} (n r x : ℕ) (xs : List ℕ) → x ∷ xs ≡ passing n r → n + r ≤ k → x < k
  passing_below {k} n r x xs e h = (subst (AllByRecursion (λ c. c < k)) (sym e) (below_all n r k h)).0

-- What goes on is taken, stays, or is a star under what goes on. more gives the stars under a node, which follow it.
pub record Going (end : ℕ) (taken stays starred advances : ℕ → Bool) (more : ℕ → List ℕ) : Type 0 where
  pub each : (c : ℕ) → 0 < c → c < end → advances c ≡ (taken c || stays c) || starred c
  pub following : (p : ℕ) → AllByRecursion (λ c. p < c) (more p)

-- so far met: the nodes before n, of which r are left
pub record Met (end : ℕ) (taken stays starred advances : ℕ → Bool) (more : ℕ → List ℕ) (met xs ys zs : List ℕ) (n r : ℕ) : Type 0 where
  pub place : 0 < n
  pub left : n + r ≡ end
  pub all : met ++ passing advances n r ≡ passing advances 0 end
  pub xs_are : xs ≡ passing taken n r
  pub ys_are : ys ≡ passing stays n r
  pub zs_are : zs ++ flat_map more (passing advances n r) ≡ passing starred n r

module _ (end : ℕ) (taken stays starred advances : ℕ → Bool) (more : ℕ → List ℕ) (g : Going end taken stays starred advances more) where
  abbrev pub M : List ℕ → List ℕ → List ℕ → List ℕ → ℕ → ℕ → Type 0
  M met xs ys zs n r = Met end taken stays starred advances more met xs ys zs n r

  under_beyond : (n a r : ℕ) → n ≤ a → AllByRecursion (λ c. n < c) (flat_map more (passing advances a r))
  under_beyond n a zero h = tt
  under_beyond n a (suc r) h =
      let rest : AllByRecursion (λ c. n < c) (flat_map more (filter advances (range_with_len (a + 1) r))) = under_beyond n (a + 1) r (omega arith) in
      elim (advances a) as (λ v. AllByRecursion (λ c. n < c) (flat_map more (cond v (a ∷ filter advances (range_with_len (a + 1) r)) (filter advances (range_with_len (a + 1) r)))))
      [ true ↦ all_append (λ c. n < c) (more a) (flat_map more (filter advances (range_with_len (a + 1) r))) (all_beyond n a (more a) h (g.following a)) rest | false ↦ rest ]

  -- a node that is in none of the lists
  skip_one : (met xs ys zs : List ℕ) (n r : ℕ) → M met xs ys zs n (suc r) → IsFrom (n + 1) xs → IsFrom (n + 1) ys → IsFrom (n + 1) zs → M met xs ys zs (n + 1) r
  skip_one met xs ys zs n r m hx hy hz =
      let no_x : taken n ≡ false = not_here taken n r xs m.xs_are hx in
      let no_y : stays n ≡ false = not_here stays n r ys m.ys_are hy in
      let later : IsFrom (n + 1) (zs ++ flat_map more (passing advances n (suc r))) =
      from_append (n + 1) zs (flat_map more (passing advances n (suc r))) hz (from_all n (flat_map more (passing advances n (suc r))) (under_beyond n n (suc r) (omega arith))) in
      let no_z : starred n ≡ false = not_here starred n r (zs ++ flat_map more (passing advances n (suc r))) m.zs_are later in
      let no : advances n ≡ false = g.each n m.place (omega (arith, m.left)) ∙ or_from (taken n || stays n) (starred n) (or_from (taken n) (stays n) no_x no_y) no_z in
      record {
        place = omega arith;
        left = omega (arith, m.left);
        all = ap (λ (l : List ℕ). met ++ l) (sym (passing_not advances n r no)) ∙ m.all;
        xs_are = m.xs_are ∙ passing_not taken n r no_x;
        ys_are = m.ys_are ∙ passing_not stays n r no_y;
        zs_are = ap (λ (l : List ℕ). zs ++ flat_map more l) (sym (passing_not advances n r no)) ∙ m.zs_are ∙ passing_not starred n r no_z;
      }

  -- up to a place that none of the lists has passed
  skip : (d : ℕ) (met xs ys zs : List ℕ) (n m r rest : ℕ) → m ≡ n + d → r ≡ d + rest → M met xs ys zs n r → IsFrom m xs → IsFrom m ys → IsFrom m zs → M met xs ys zs m rest
  skip zero met xs ys zs n m r rest e f w hx hy hz =
      let same : n ≡ m = omega arith in
      let left : r ≡ rest = omega arith in
      subst (λ k. M met xs ys zs k rest) same (subst (λ k. M met xs ys zs n k) left w)
  skip (suc d) met xs ys zs n m r rest e f w hx hy hz =
      let up : n + 1 ≤ m = omega arith in
      let left : r ≡ suc (d + rest) = omega arith in
      let here : m ≡ (n + 1) + d = omega arith in
      skip d met xs ys zs (n + 1) m (d + rest) rest here refl
      (skip_one met xs ys zs n (d + rest) (subst (λ k. M met xs ys zs n k) left w) (from_below (n + 1) m xs up hx) (from_below (n + 1) m ys up hy) (from_below (n + 1) m zs up hz))
      hx hy hz

  -- a node that is first in one of them
  pub meet : (met xs ys zs : List ℕ) (n r : ℕ) → M met xs ys zs n (suc r) → advances n ≡ true → M (met ++ n ∷ []) (past n xs) (past n ys) (past n zs ++ more n) (n + 1) r
  meet met xs ys zs n r m here =
      let rest : List ℕ = flat_map more (passing advances (n + 1) r) in
      let split : passing advances n (suc r) ≡ n ∷ passing advances (n + 1) r = passing_here advances n r here in
      let new_beyond : IsFrom (n + 1) (more n ++ rest) = from_all n (more n ++ rest) (all_append (λ c. n < c) (more n) rest (g.following n) (under_beyond n (n + 1) r (omega arith))) in
      record {
        place = omega arith;
        left = omega (arith, m.left);
        all = append_assoc met (n ∷ []) (passing advances (n + 1) r) ∙ ap (λ (l : List ℕ). met ++ l) (sym split) ∙ m.all;
        xs_are = passing_past taken n r xs m.xs_are;
        ys_are = passing_past stays n r ys m.ys_are;
        zs_are = append_assoc (past n zs) (more n) rest
            ∙ past-append n zs (more n ++ rest) new_beyond
            ∙ passing_past starred n r (zs ++ (more n ++ rest)) (ap (λ (l : List ℕ). zs ++ flat_map more l) (sym split) ∙ m.zs_are);
      }

  -- at the end
  pub met_all : (met xs ys zs : List ℕ) (n : ℕ) → M met xs ys zs n 0 → met ≡ passing advances 0 end
  met_all met xs ys zs n m = sym (append-nil met) ∙ m.all

  comes_first : (p : ℕ → Bool) (n r : ℕ) (xs ws : List ℕ) → xs ++ ws ≡ passing p n (suc r) → n < end → first_or end xs ≡ n → p n ≡ true
  comes_first p n r [] ws e h f = absurd (omega arith)
  comes_first p n r (x ∷ xs) ws e h f = true_from_ne_false (p n) (λ not.
      let later : IsFrom (n + 1) (passing p (n + 1) r) = from_all n (passing p (n + 1) r) (passing_beyond p n (n + 1) r (omega arith)) in
      let wrong : n + 1 ≤ x = subst (IsFrom (n + 1)) (sym (passing_not p n r not) ∙ sym e) later in
      omega arith)

  not_before : (p : ℕ → Bool) (n r : ℕ) (xs ws : List ℕ) → xs ++ ws ≡ passing p n r → 0 < n → n ≤ end → n ≤ first_or end xs
  not_before p n r [] ws e h f = f
  not_before p n r (x ∷ xs) ws e h f =
      let later : IsFrom ((n - 1) + 1) (passing p n r) = from_all (n - 1) (passing p n r) (passing_beyond p (n - 1) n r (omega arith)) in
      let here : (n - 1) + 1 ≤ x = subst (IsFrom ((n - 1) + 1)) (sym e) later in
      omega arith

  module _ (met xs ys zs : List ℕ) (from node : ℕ) (w : M met xs ys zs from (end - from))
      (least : node ≡ min (first_or end xs) (min (first_or end ys) (first_or end zs))) where
    X : ℕ
    X = first_or end xs

    after : from ≤ first_or end xs
    after = not_before taken from (end - from) xs [] (append-nil xs ∙ w.xs_are) w.place (omega (arith, w.left))

    after_y : from ≤ first_or end ys
    after_y = not_before stays from (end - from) ys [] (append-nil ys ∙ w.ys_are) w.place (omega (arith, w.left))

    after_z : from ≤ first_or end zs
    after_z = not_before starred from (end - from) zs (flat_map more (passing advances from (end - from))) w.zs_are w.place (omega (arith, w.left))

    -- it follows what was met
    pub not_met : from ≤ node
    not_met = omega (arith, after, after_y, after_z)

    arrive_at : (place rest : ℕ) → from ≤ place → place ≤ node → place + rest ≡ end → M met xs ys zs place rest
    arrive_at place rest f h e =
        let here : place ≡ from + (place - from) = omega arith in
        let left : end - from ≡ (place - from) + rest = omega arith in
        let lx : place ≤ first_or end xs = omega arith in
        let ly : place ≤ first_or end ys = omega arith in
        let lz : place ≤ first_or end zs = omega arith in
        skip (place - from) met xs ys zs from place (end - from) rest here left w (from_least place end xs lx) (from_least place end ys ly) (from_least place end zs lz)

    -- the next node that goes on
    pub next : node < end → M (met ++ node ∷ []) (past node xs) (past node ys) (past node zs ++ more node) (node + 1) (end - (node + 1))
    next h =
        let rest : ℕ = end - (node + 1) in
        let m : M met xs ys zs node (suc rest) = arrive_at node (suc rest) not_met (omega arith) (omega arith) in
        let one : (first_or end xs ≡ node) ⊎ ((first_or end ys ≡ node) ⊎ (first_or end zs ≡ node)) = which (first_or end xs) (first_or end ys) (first_or end zs) least in
        let proceeds : advances node ≡ true = g.each node (omega (arith, not_met, w.place)) h ∙ elim one [
          | inl e ↦ ap (λ v. (v || stays node) || starred node) (comes_first taken node rest xs [] (append-nil xs ∙ m.xs_are) h e)
          | inr (inl e) ↦ ap (λ v. (taken node || v) || starred node) (comes_first stays node rest ys [] (append-nil ys ∙ m.ys_are) h e) ∙ ap (λ v. v || starred node) (or_true (taken node))
          | inr (inr e) ↦ ap (λ v. (taken node || stays node) || v) (comes_first starred node rest zs (flat_map more (passing advances node (suc rest))) m.zs_are h e) ∙ or_true (taken node || stays node)
        ] in
        meet met xs ys zs node rest m proceeds

    -- nothing is left
    pub finish : end ≤ node → met ≡ passing advances 0 end
    finish h =
        met_all met xs ys zs end (arrive_at end 0 (omega (arith, w.left)) h (omega arith))

  -- what is next is a node
  pub inside : (met xs ys zs : List ℕ) (n r node : ℕ) → M met xs ys (node ∷ zs) n r → node < end
  inside met xs ys zs n r node w = passing_below starred n r node (zs ++ flat_map more (passing advances n r)) w.zs_are (omega (arith, w.left))
