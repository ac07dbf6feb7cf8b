-- Places of a text, from the last on.
use Rattle.std.proofs.Common.{◌≡◌, ℕ, zero, suc, ◌+◌, ◌-◌, ◌<◌, Option, Some, None, List, [], ◌∷◌, ◌++◌, reverse, filter_map, refl, sym, ap, ◌∙◌, arith, append_assoc}
use Rattle.std.proofs.lemmas.List.{reverse-append}
use Rattle.std.specs.List.{range_with_len}

-- one place more
range_more : (a n k : ℕ) → a + n ≡ k → range_with_len a (suc n) ≡ range_with_len a n ++ k ∷ []
range_more a zero k e = let here : a ≡ k = omega (arith, e) in ap (λ (place : ℕ). place ∷ []) here
range_more a (suc n) k e = ap (λ (places : List ℕ). a ∷ places) (range_more (a + 1) n k (omega (arith, e)))

-- the greatest place comes first
reversed_more : (n : ℕ) → reverse (range_with_len 0 (suc n)) ≡ n ∷ reverse (range_with_len 0 n)
reversed_more n = ap reverse (range_more 0 n n (omega arith)) ∙ reverse-append (range_with_len 0 n) (n ∷ [])

module _ {Y : Type 0} (h : ℕ → Option Y) where
  kept_some : (n : ℕ) (ns : List ℕ) (y : Y) → h n ≡ Some y → filter_map h (n ∷ ns) ≡ y ∷ filter_map h ns
  kept_some n ns y e = rw e refl

  kept_none : (n : ℕ) (ns : List ℕ) → h n ≡ None → filter_map h (n ∷ ns) ≡ filter_map h ns
  kept_none n ns e = rw e refl

  -- a place at which something is found
  pub place_some : (got : List Y) (n : ℕ) (y : Y) → 0 < n → h (n - 1) ≡ Some y
      → (got ++ y ∷ []) ++ filter_map h (reverse (range_with_len 0 (n - 1))) ≡ got ++ filter_map h (reverse (range_with_len 0 n))
  place_some got zero y some e = absurd (omega (arith, some))
  place_some got (suc n) y some e =
      let less : suc n - 1 ≡ n = omega arith in
      let here : h n ≡ Some y = ap h (sym less) ∙ e in
      ap (λ (k : ℕ). (got ++ y ∷ []) ++ filter_map h (reverse (range_with_len 0 k))) less
      ∙ append_assoc got (y ∷ []) (filter_map h (reverse (range_with_len 0 n)))
      ∙ ap (λ (rest : List Y). got ++ rest) (sym (kept_some n (reverse (range_with_len 0 n)) y here) ∙ ap (filter_map h) (sym (reversed_more n)))

  -- a place at which nothing is
  pub place_none : (got : List Y) (n : ℕ) → 0 < n → h (n - 1) ≡ None
      → got ++ filter_map h (reverse (range_with_len 0 (n - 1))) ≡ got ++ filter_map h (reverse (range_with_len 0 n))
  place_none got zero some e = absurd (omega (arith, some))
  place_none got (suc n) some e =
      let less : suc n - 1 ≡ n = omega arith in
      let here : h n ≡ None = ap h (sym less) ∙ e in
      ap (λ (k : ℕ). got ++ filter_map h (reverse (range_with_len 0 k))) less
      ∙ ap (λ (rest : List Y). got ++ rest) (sym (kept_none n (reverse (range_with_len 0 n)) here) ∙ ap (filter_map h) (sym (reversed_more n)))
