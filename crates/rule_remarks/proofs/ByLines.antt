-- Elements that are put among others by their lines.
use Rattle.std.proofs.Common.{◌≡◌, ℕ, suc, ◌+◌, ◌<◌, ◌≤◌, Bool, true, false, true≢false, cond, nat_lt, List, [], ◌∷◌, ◌++◌, drop, subst, ap, sym, ◌∙◌, refl, arith}
use Rattle.std.specs.List.{prefix_len}
use Rattle.std.proofs.lemmas.Bool.{ltb-false, ltb-true}
use Rattle.std.proofs.lemmas.List.Sums.{take_while-cons}
use Rattle.rule_remarks.specs.ByLine.{before, by_line, from_line}
use Rattle.rule_core.specs.Laws.{RisesFrom}

module _ {X : Type 0} (line_of : X → ℕ) where
  passed : (b : Bool) (n : ℕ) (x : X) (xs : List X) → b ≡ true → drop (cond b (1 + n) 0) (x ∷ xs) ≡ drop n xs
  passed true n x xs e =
      let one : 1 + n ≡ suc n = omega arith in
      ap (λ (k : ℕ). drop k (x ∷ xs)) one
  passed false n x xs e = absurd (true≢false (sym e))

  -- what is left begins at the line
  left_rises : (n m : ℕ) (xs : List X) → RisesFrom line_of n xs → RisesFrom line_of m (from_line line_of xs m)
  left_rises n m [] h = tt
  left_rises n m (x ∷ xs) h = by (nat_lt (line_of x) m) refl (left_rises (line_of x) m xs h.1)
    where
      by : (b : Bool) → nat_lt (line_of x) m ≡ b → RisesFrom line_of m (from_line line_of xs m) → RisesFrom line_of m (drop (cond b (1 + prefix_len (λ y. nat_lt (line_of y) m) xs) 0) (x ∷ xs))
      by true e more = subst (λ (ys : List X). RisesFrom line_of m ys) (sym (passed true (prefix_len (λ y. nat_lt (line_of y) m) xs) x xs refl)) more
      by false e more = (ltb-false (line_of x) m e, h.1)

  -- an element after those that are reported for lines before its own
  prefix_rises : (n : ℕ) (x : X) (rest xs : List X) → RisesFrom line_of n xs → n ≤ line_of x → RisesFrom line_of (line_of x) rest → RisesFrom line_of n (before line_of xs (line_of x) ++ x ∷ rest)
  prefix_rises n x rest [] h l k = (l, k)
  prefix_rises n x rest (y ∷ xs) h l k = by (nat_lt (line_of y) (line_of x)) refl (λ g. prefix_rises (line_of y) x rest xs h.1 g k)
    where
      by : (b : Bool) → nat_lt (line_of y) (line_of x) ≡ b → (line_of y ≤ line_of x → RisesFrom line_of (line_of y) (before line_of xs (line_of x) ++ x ∷ rest)) → RisesFrom line_of n (before line_of (y ∷ xs) (line_of x) ++ x ∷ rest)
      by true e more =
          let less : line_of y < line_of x = ltb-true (line_of y) (line_of x) e in
          subst (λ (zs : List X). RisesFrom line_of n (zs ++ x ∷ rest)) (sym (take_while-cons (λ z. nat_lt (line_of z) (line_of x)) y xs ∙ ap (λ (b : Bool). cond b (y ∷ before line_of xs (line_of x)) []) e)) (h.0, more (omega (arith, less)))
      by false e more =
          subst (λ (zs : List X). RisesFrom line_of n (zs ++ x ∷ rest)) (sym (take_while-cons (λ z. nat_lt (line_of z) (line_of x)) y xs ∙ ap (λ (b : Bool). cond b (y ∷ before line_of xs (line_of x)) []) e)) (l, k)

  -- two that rise make one that does
  pub both_rise : (n : ℕ) (xs others : List X) → RisesFrom line_of n xs → RisesFrom line_of n others → RisesFrom line_of n (by_line line_of xs others)
  both_rise n [] others h k = k
  both_rise n (x ∷ xs) others h k =
      prefix_rises n x (by_line line_of xs (from_line line_of others (line_of x))) others k h.0
      (both_rise (line_of x) xs (from_line line_of others (line_of x)) h.1 (left_rises n (line_of x) others k))
