-- A stable sort by turns gives parts turn by turn.
use Rattle.std.proofs.Common.{◌≡◌, ℕ, zero, suc, ◌+◌, ◌<◌, ◌≤◌, ◌==◌, ◌&&◌, Bool, true, false, not, cond, List, [], ◌∷◌, ◌++◌, length, filter, get_or, nat_lt, append-nil, length-append, refl, ap, sym, ◌∙◌, subst, arith, ◌⊎◌, inl, inr}
use Rattle.std.specs.List.{flat_map, range_with_len}
use Rattle.std.specs.List.Sorted.{IsNonDecreasingBy, IsStableByKey, ties}
use Rattle.std.specs.Ordering.{is_lt, nat_cmp}
use Rattle.std.specs.declared.cmp.Ordering.TheVariants.{Less, Equal, Greater}
use Rattle.std.proofs.lemmas.Bool.{cases_lt, eq-eqb, eqb-true, false≢true, le-ltb, lt-ltb}
use Rattle.rule_core.specs.Laws.{IsInOrder, RisesFrom}
use Rattle.rule_core.specs.Turns.{by_turn, of_turn}

module _ {X : Type 0} (turn : X → ℕ) where
  -- each has a turn below this
  abbrev pub AllBelow : ℕ → List X → Type 0
  AllBelow n [] = Unit {0}
  AllBelow n (x ∷ xs) = (turn x < n) × AllBelow n xs

  rises_less : (t u : ℕ) (xs : List X) → t ≤ u → RisesFrom turn u xs → RisesFrom turn t xs
  rises_less t u [] h r = tt
  rises_less t u (x ∷ xs) h r =
      let first : u ≤ turn x = r.0 in
      (omega arith, r.1)

  -- those of another turn are skipped
  of_other : (x : X) (xs : List X) (t : ℕ) → (turn x == t) ≡ false → of_turn turn (x ∷ xs) t ≡ of_turn turn xs t
  of_other x xs t e = ap (λ b. cond b (x ∷ of_turn turn xs t) (of_turn turn xs t)) e

  of_same : (x : X) (xs : List X) (t : ℕ) → (turn x == t) ≡ true → of_turn turn (x ∷ xs) t ≡ x ∷ of_turn turn xs t
  of_same x xs t e = ap (λ b. cond b (x ∷ of_turn turn xs t) (of_turn turn xs t)) e

  is_other : (a b : ℕ) → a < b → (b == a) ≡ false
  is_other a b h = by (b == a) refl
    where
      by : (c : Bool) → (b == a) ≡ c → c ≡ false
      by true e = let same : b ≡ a = eqb-true b a e in absurd (omega arith)
      by false e = refl

  is_earlier : (a b : ℕ) → a < b → (a == b) ≡ false
  is_earlier a b h = by (a == b) refl
    where
      by : (c : Bool) → (a == b) ≡ c → c ≡ false
      by true e = let same : a ≡ b = eqb-true a b e in absurd (omega arith)
      by false e = refl

  -- none has a turn before the first
  none_before : (t u : ℕ) (xs : List X) → t < u → RisesFrom turn u xs → of_turn turn xs t ≡ []
  none_before t u [] h r = refl
  none_before t u (x ∷ xs) h r =
      let first : u ≤ turn x = r.0 in
      of_other x xs t (is_other t (turn x) (omega arith)) ∙ none_before t (turn x) xs (omega arith) r.1

  -- one that has its turn before these is in none of them
  not_later : (x : X) (xs : List X) (u n : ℕ) → turn x < u → flat_map (of_turn turn (x ∷ xs)) (range_with_len u n) ≡ flat_map (of_turn turn xs) (range_with_len u n)
  not_later x xs u zero h = refl
  not_later x xs u (suc n) h =
      ap (λ ys. ys ++ flat_map (of_turn turn (x ∷ xs)) (range_with_len (u + 1) n)) (of_other x xs u (is_earlier (turn x) u h))
      ∙ ap (λ ys. of_turn turn xs u ++ ys) (not_later x xs (u + 1) n (omega arith))

  none_left : (u n : ℕ) → flat_map (of_turn turn []) (range_with_len u n) ≡ []
  none_left u zero = refl
  none_left u (suc n) = none_left (u + 1) n

  -- one that has its turn among these is in one of them
  one_in_turn : (x : X) (xs : List X) (u n : ℕ) → u ≤ turn x → turn x < u + n
      → length (flat_map (of_turn turn (x ∷ xs)) (range_with_len u n)) ≡ 1 + length (flat_map (of_turn turn xs) (range_with_len u n))
  one_in_turn x xs u zero h k = absurd (omega arith)
  one_in_turn x xs u (suc n) h k = by (cases_lt u (turn x)) (one_in_turn x xs (u + 1) n)
    where
      later : List X → List X
      later ys = flat_map (of_turn turn ys) (range_with_len (u + 1) n)

      by : (u < turn x) ⊎ (turn x ≤ u) → (u + 1 ≤ turn x → turn x < u + 1 + n → length (later (x ∷ xs)) ≡ 1 + length (later xs))
          → length (of_turn turn (x ∷ xs) u ++ later (x ∷ xs)) ≡ 1 + length (of_turn turn xs u ++ later xs)
      by (inl g) more =
          let rest = more (omega arith) (omega arith) in
          let first = ap (λ ys. length ys) (of_other x xs u (is_other u (turn x) g)) in
          let whole = length-append (of_turn turn (x ∷ xs) u) (later (x ∷ xs)) in
          let fewer = length-append (of_turn turn xs u) (later xs) in
          omega (arith, rest, first, whole, fewer)
      by (inr g) more =
          let first = ap (λ ys. length ys) (of_same x xs u (eq-eqb (turn x) u (omega arith))) in
          let rest = ap (λ ys. length ys) (not_later x xs (u + 1) n (omega arith)) in
          let whole = length-append (of_turn turn (x ∷ xs) u) (later (x ∷ xs)) in
          let fewer = length-append (of_turn turn xs u) (later xs) in
          omega (arith, rest, first, whole, fewer)

  -- as many elements are listed turn by turn as there are
  pub all_in_turn : (n : ℕ) → ((x : X) → turn x < n) → (xs : List X) → length (by_turn turn n xs) ≡ length xs
  all_in_turn n below [] = ap (λ ys. length ys) (none_left 0 n)
  all_in_turn n below (x ∷ xs) =
      let one = one_in_turn x xs 0 n (omega arith) (let low = below x in omega (arith, low)) in
      let others = all_in_turn n below xs in
      omega (arith, one, others)

  -- elements whose turns rise are listed turn by turn
  in_turn_order : (u n : ℕ) (xs : List X) → RisesFrom turn u xs → AllBelow (u + n) xs → xs ≡ flat_map (of_turn turn xs) (range_with_len u n)
  in_turn_order u zero [] r b = refl
  in_turn_order u zero (x ∷ xs) r b =
      let first : u ≤ turn x = r.0 in
      let last : turn x < u + 0 = b.0 in
      absurd (omega arith)
  in_turn_order u (suc n) xs r b = by (λ ys s c. in_turn_order (u + 1) n ys s c) xs r b
    where
      more : (k : ℕ) (ys : List X) → AllBelow (u + suc n) ys → AllBelow (u + 1 + n) ys
      more k [] b = tt
      more k (y ∷ ys) b =
          let last : turn y < u + suc n = b.0 in
          (omega arith, more k ys b.1)

      by : ((ys : List X) → RisesFrom turn (u + 1) ys → AllBelow (u + 1 + n) ys → ys ≡ flat_map (of_turn turn ys) (range_with_len (u + 1) n))
          → (ys : List X) → RisesFrom turn u ys → AllBelow (u + suc n) ys → ys ≡ flat_map (of_turn turn ys) (range_with_len u (suc n))
      by later [] r b = sym (none_left u (suc n))
      by later (y ∷ ys) r b = by_turn_of (turn y == u) refl (by later ys)
        where
          by_turn_of : (c : Bool) → (turn y == u) ≡ c → (RisesFrom turn u ys → AllBelow (u + suc n) ys → ys ≡ flat_map (of_turn turn ys) (range_with_len u (suc n))) → y ∷ ys ≡ flat_map (of_turn turn (y ∷ ys)) (range_with_len u (suc n))
          by_turn_of true e rest =
              let same : turn y ≡ u = eqb-true (turn y) u e in
              ap (λ zs. y ∷ zs) (rest (rises_less u (turn y) ys (omega arith) r.1) b.1)
              ∙ ap (λ zs. zs ++ flat_map (of_turn turn ys) (range_with_len (u + 1) n)) (sym (of_same y ys u e))
              ∙ ap (λ zs. of_turn turn (y ∷ ys) u ++ zs) (sym (not_later y ys (u + 1) n (omega arith)))
          by_turn_of false e rest =
              let first : u ≤ turn y = r.0 in
              let apart : u < turn y = past u (turn y) first e in
              later (y ∷ ys) (omega arith, r.1) (more 0 (y ∷ ys) b)
              ∙ ap (λ zs. zs ++ flat_map (of_turn turn (y ∷ ys)) (range_with_len (u + 1) n)) (sym (none_before u (u + 1) (y ∷ ys) (omega arith) (omega arith, r.1)))
            where
              past : (a b : ℕ) → a ≤ b → (b == a) ≡ false → a < b
              past a b h e = by_size (cases_lt a b)
                where
                  by_size : (a < b) ⊎ (b ≤ a) → a < b
                  by_size (inl k) = k
                  by_size (inr k) = absurd (false≢true (sym e ∙ eq-eqb b a (omega arith)))

  -- ---- what a stable sort gives

  rises_so : (t : ℕ) (xs : List X) → IsNonDecreasingBy turn xs → ((d : X) → 0 < length xs → t ≤ turn (get_or xs 0 d)) → RisesFrom turn t xs
  rises_so t [] up first = tt
  rises_so t (x ∷ xs) up first = (first x (omega arith), rises_so (turn x) xs (λ i j d h k. up (suc i) (suc j) d (omega arith) (omega arith)) (λ d h. up 0 1 d (omega arith) (omega arith)))

  is_less : (a b : ℕ) → is_lt (nat_cmp a b) ≡ nat_lt a b
  is_less a b = by (nat_lt a b) (a == b)
    where
      by : (c d : Bool) → is_lt (cond c Less (cond d Equal Greater)) ≡ c
      by true d = refl
      by false true = refl
      by false false = refl

  -- those that tie with one have its turn
  ties_are : (a b : ℕ) → (not (is_lt (nat_cmp a b)) && not (is_lt (nat_cmp b a))) ≡ (b == a)
  ties_are a b = by (cases_lt a b) (cases_lt b a)
    where
      by : (a < b) ⊎ (b ≤ a) → (b < a) ⊎ (a ≤ b) → (not (is_lt (nat_cmp a b)) && not (is_lt (nat_cmp b a))) ≡ (b == a)
      by (inl h) k = ap (λ c. not c && not (is_lt (nat_cmp b a))) (is_less a b ∙ lt-ltb a b h) ∙ sym (is_other a b h)
      by (inr h) (inl k) = ap (λ c. not c && not (is_lt (nat_cmp b a))) (is_less a b ∙ le-ltb a b h) ∙ ap not (is_less b a ∙ lt-ltb b a k) ∙ sym (is_earlier b a k)
      by (inr h) (inr k) = ap (λ c. not c && not (is_lt (nat_cmp b a))) (is_less a b ∙ le-ltb a b h) ∙ ap not (is_less b a ∙ le-ltb b a k) ∙ sym (eq-eqb b a (omega arith))

  same_filter : (f g : X → Bool) (xs : List X) → ((x : X) → f x ≡ g x) → filter f xs ≡ filter g xs
  same_filter f g [] e = refl
  same_filter f g (x ∷ xs) e = ap (λ b. cond b (x ∷ filter f xs) (filter f xs)) (e x) ∙ ap (λ ys. cond (g x) (x ∷ ys) ys) (same_filter f g xs e)

  of_tied : (x : X) (xs : List X) → filter (ties (λ a b. is_lt (nat_cmp (turn a) (turn b))) x) xs ≡ of_turn turn xs (turn x)
  of_tied x xs = same_filter (ties (λ a b. is_lt (nat_cmp (turn a) (turn b))) x) (λ y. turn y == turn x) xs (λ y. ties_are (turn x) (turn y))

  head_turn : (xs : List X) (x : X) (rest : List X) (t : ℕ) → of_turn turn xs t ≡ x ∷ rest → turn x ≡ t
  head_turn [] x rest t e = cc
  head_turn (y ∷ xs) x rest t e = by (turn y == t) refl e (head_turn xs x rest t)
    where
      by : (b : Bool) → (turn y == t) ≡ b → cond b (y ∷ of_turn turn xs t) (of_turn turn xs t) ≡ x ∷ rest → (of_turn turn xs t ≡ x ∷ rest → turn x ≡ t) → turn x ≡ t
      by true g e later =
          let same : x ≡ y = cc in
          ap turn same ∙ eqb-true (turn y) t g
      by false g e later = later e

  each_stable : (xs ys : List X) → IsStableByKey turn nat_cmp xs ys → (t : ℕ) → of_turn turn ys t ≡ of_turn turn xs t
  each_stable xs ys s t = by (of_turn turn xs t) (of_turn turn ys t) refl refl
    where
      at : (x : X) → turn x ≡ t → of_turn turn ys t ≡ of_turn turn xs t
      at x e = subst (λ u. of_turn turn ys u ≡ of_turn turn xs u) e (sym (of_tied x ys) ∙ s x ∙ of_tied x xs)

      by : (those these : List X) → of_turn turn xs t ≡ those → of_turn turn ys t ≡ these → of_turn turn ys t ≡ of_turn turn xs t
      by [] [] e f = f ∙ sym e
      by (x ∷ those) these e f = at x (head_turn xs x those t e)
      by [] (y ∷ these) e f = at y (head_turn ys y these t f)

  same_turns : (xs ys : List X) → ((t : ℕ) → of_turn turn ys t ≡ of_turn turn xs t) → (u n : ℕ) → flat_map (of_turn turn ys) (range_with_len u n) ≡ flat_map (of_turn turn xs) (range_with_len u n)
  same_turns xs ys e u zero = refl
  same_turns xs ys e u (suc n) =
      ap (λ zs. zs ++ flat_map (of_turn turn ys) (range_with_len (u + 1) n)) (e u) ∙ ap (λ zs. of_turn turn xs u ++ zs) (same_turns xs ys e (u + 1) n)

  all_below : (n : ℕ) → ((x : X) → turn x < n) → (xs : List X) → AllBelow n xs
  all_below n h [] = tt
  all_below n h (x ∷ xs) = (h x, all_below n h xs)

  -- what a stable sort by turns gives
  pub sorted_by_turn : (n : ℕ) → ((x : X) → turn x < n) → (xs ys : List X) → IsNonDecreasingBy turn ys → IsStableByKey turn nat_cmp xs ys → ys ≡ by_turn turn n xs
  sorted_by_turn n below xs ys up s =
      in_turn_order 0 n ys (rises_so 0 ys up (λ d h. omega arith)) (all_below (0 + n) (λ x. let h = below x in omega (arith, h)) ys)
      ∙ same_turns xs ys (each_stable xs ys s) 0 n

  -- ---- the order

  of_both : (xs ys : List X) (t : ℕ) → of_turn turn (xs ++ ys) t ≡ of_turn turn xs t ++ of_turn turn ys t
  of_both [] ys t = refl
  of_both (x ∷ xs) ys t = by (turn x == t) (of_both xs ys t)
    where
      by : (b : Bool) → of_turn turn (xs ++ ys) t ≡ of_turn turn xs t ++ of_turn turn ys t
          → cond b (x ∷ of_turn turn (xs ++ ys) t) (of_turn turn (xs ++ ys) t) ≡ cond b (x ∷ of_turn turn xs t) (of_turn turn xs t) ++ of_turn turn ys t
      by true e = ap (λ zs. x ∷ zs) e
      by false e = e

  of_again : (xs : List X) (t : ℕ) → of_turn turn (of_turn turn xs t) t ≡ of_turn turn xs t
  of_again [] t = refl
  of_again (x ∷ xs) t = by (turn x == t) refl (of_again xs t)
    where
      by : (b : Bool) → (turn x == t) ≡ b → of_turn turn (of_turn turn xs t) t ≡ of_turn turn xs t → of_turn turn (cond b (x ∷ of_turn turn xs t) (of_turn turn xs t)) t ≡ cond b (x ∷ of_turn turn xs t) (of_turn turn xs t)
      by true e more = of_same x (of_turn turn xs t) t e ∙ ap (λ zs. x ∷ zs) more
      by false e more = more

  of_apart : (xs : List X) (u t : ℕ) → (u == t) ≡ false → of_turn turn (of_turn turn xs u) t ≡ []
  of_apart [] u t h = refl
  of_apart (x ∷ xs) u t h = by (turn x == u) refl (of_apart xs u t h)
    where
      by : (b : Bool) → (turn x == u) ≡ b → of_turn turn (of_turn turn xs u) t ≡ [] → of_turn turn (cond b (x ∷ of_turn turn xs u) (of_turn turn xs u)) t ≡ []
      by true e more = of_other x (of_turn turn xs u) t (ap (λ n. n == t) (eqb-true (turn x) u e) ∙ h) ∙ more
      by false e more = more

  none_of : (xs : List X) (u n t : ℕ) → ((s : ℕ) → u ≤ s → s < u + n → (s == t) ≡ false) → of_turn turn (flat_map (of_turn turn xs) (range_with_len u n)) t ≡ []
  none_of xs u zero t h = refl
  none_of xs u (suc n) t h =
      of_both (of_turn turn xs u) (flat_map (of_turn turn xs) (range_with_len (u + 1) n)) t
      ∙ ap (λ zs. zs ++ of_turn turn (flat_map (of_turn turn xs) (range_with_len (u + 1) n)) t) (of_apart xs u t (h u (omega arith) (omega arith)))
      ∙ none_of xs (u + 1) n t (λ s g k. h s (omega arith) (omega arith))

  one_of : (xs : List X) (u n t : ℕ) → u ≤ t → t < u + n → of_turn turn (flat_map (of_turn turn xs) (range_with_len u n)) t ≡ of_turn turn xs t
  one_of xs u zero t h k = absurd (omega arith)
  one_of xs u (suc n) t h k = of_both (of_turn turn xs u) rest t ∙ by (cases_lt u t) (one_of xs (u + 1) n t)
    where
      rest : List X
      rest = flat_map (of_turn turn xs) (range_with_len (u + 1) n)

      by : (u < t) ⊎ (t ≤ u) → (u + 1 ≤ t → t < u + 1 + n → of_turn turn rest t ≡ of_turn turn xs t) → of_turn turn (of_turn turn xs u) t ++ of_turn turn rest t ≡ of_turn turn xs t
      by (inl g) more = ap (λ zs. zs ++ of_turn turn rest t) (of_apart xs u t (is_earlier u t g)) ∙ more (omega arith) (omega arith)
      by (inr g) more =
          let same : u ≡ t = omega arith in
          ap (λ s. of_turn turn (of_turn turn xs s) t ++ of_turn turn rest t) same
          ∙ ap (λ zs. zs ++ of_turn turn rest t) (of_again xs t)
          ∙ ap (λ zs. of_turn turn xs t ++ zs) (none_of xs (u + 1) n t (λ s i j. is_other t s (omega arith)))
          ∙ append-nil (of_turn turn xs t)

  none_over : (n : ℕ) → ((x : X) → turn x < n) → (xs : List X) (t : ℕ) → n ≤ t → of_turn turn xs t ≡ []
  none_over n h [] t k = refl
  none_over n h (x ∷ xs) t k =
      let low : turn x < n = h x in
      of_other x xs t (is_earlier (turn x) t (omega arith)) ∙ none_over n h xs t k

  -- those of one turn, and then others that do not have theirs before it
  turn_first : (b t : ℕ) (xs others : List X) → b ≤ t → RisesFrom turn t others → RisesFrom turn b (of_turn turn xs t ++ others)
  turn_first b t [] others h r = rises_less b t others h r
  turn_first b t (x ∷ xs) others h r = by (turn x == t) refl (turn_first b t xs others h r) (turn_first t t xs others (omega arith) r)
    where
      by : (c : Bool) → (turn x == t) ≡ c → RisesFrom turn b (of_turn turn xs t ++ others) → RisesFrom turn t (of_turn turn xs t ++ others) → RisesFrom turn b (cond c (x ∷ of_turn turn xs t) (of_turn turn xs t) ++ others)
      by true e far near =
          let same : turn x ≡ t = eqb-true (turn x) t e in
          (omega arith, rises_less (turn x) t (of_turn turn xs t ++ others) (omega arith) near)
      by false e far near = far

  rising : (b u n : ℕ) (xs : List X) → b ≤ u → RisesFrom turn b (flat_map (of_turn turn xs) (range_with_len u n))
  rising b u zero xs h = tt
  rising b u (suc n) xs h = turn_first b u xs (flat_map (of_turn turn xs) (range_with_len (u + 1) n)) h (rising u (u + 1) n xs (omega arith))

  -- elements that are listed turn by turn are in order
  pub are_in_order : (n : ℕ) → ((x : X) → turn x < n) → (xs : List X) → IsInOrder turn xs (by_turn turn n xs)
  are_in_order n below xs = record {
    each = λ t. by t (cases_lt t n);
    rises = rising 0 0 n xs (omega arith);
  }
    where
      by : (t : ℕ) → (t < n) ⊎ (n ≤ t) → of_turn turn (by_turn turn n xs) t ≡ of_turn turn xs t
      by t (inl h) = one_of xs 0 n t (omega arith) (omega arith)
      by t (inr h) = none_of xs 0 n t (λ s i j. is_earlier s t (omega arith)) ∙ sym (none_over n below xs t h)
