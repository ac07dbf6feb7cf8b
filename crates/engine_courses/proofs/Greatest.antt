-- The greatest of counts, and the first place that has it.
use Rattle.std.proofs.Common.{◌≡◌, ◌≢◌, ℕ, zero, suc, ◌<◌, ◌≤◌, ◌⊎◌, inl, inr, Bool, true, false, not, eqb, List, [], ◌∷◌, length, get_or, max, fold, refl, ap, sym, ◌∙◌, subst, arith}
use Rattle.std.specs.List.{prefix_len}
use Rattle.std.proofs.Math.Nat.{le-max_left, le-max_right, max-eq_left, max-eq_right}
use Rattle.std.proofs.lemmas.Bool.{cases_lt}
use Rattle.std.proofs.lemmas.Bool.Decides.{eqb_tells}
use Rattle.std.proofs.lemmas.List.Sums.{prefix_len_passes, prefix_len_stops}
use Rattle.engine_courses.specs.Unused.{first_place, greatest}

above_start : (low : ℕ) (counts : List ℕ) → low ≤ fold max low counts
above_start low [] = omega arith
above_start low (n ∷ counts) = omega (arith, le-max_left low n, above_start (max low n) counts)

above_each : (low : ℕ) (counts : List ℕ) (place : ℕ) → get_or counts place 0 ≤ fold max low counts
above_each low [] place = omega arith
above_each low (n ∷ counts) zero = omega (arith, le-max_right low n, above_start (max low n) counts)
above_each low (n ∷ counts) (suc place) = above_each (max low n) counts place

pub most_is : (counts : List ℕ) (place : ℕ) → get_or counts place 0 ≤ greatest counts
unfolding greatest
most_is counts place = above_each 0 counts place

-- the greatest of one count and others is among them
pub record IsThere (counts : List ℕ) (n : ℕ) : Type 0 where
  pub place : ℕ
  pub within : place < length counts
  pub is : get_or counts place 0 ≡ n

past : (n m k : ℕ) (counts : List ℕ) → IsThere (n ∷ counts) k → IsThere (n ∷ m ∷ counts) k
past n m k counts t = by t.place t.within t.is
  where
    by : (place : ℕ) → place < length (n ∷ counts) → get_or (n ∷ counts) place 0 ≡ k → IsThere (n ∷ m ∷ counts) k
    by zero h e = record { place = 0; within = omega arith; is = e }
    by (suc place) h e = record { place = suc (suc place); within = omega (arith, h); is = e }

next : (n m k : ℕ) (counts : List ℕ) → IsThere (m ∷ counts) k → IsThere (n ∷ m ∷ counts) k
next n m k counts t = record { place = suc t.place; within = omega (arith, t.within); is = t.is }

there : (n : ℕ) (counts : List ℕ) → IsThere (n ∷ counts) (fold max n counts)
there n [] = record { place = 0; within = omega arith; is = refl }
there n (m ∷ counts) = by (cases_lt m n) (there n counts) (there m counts)
  where
    by : (m < n) ⊎ (n ≤ m) → IsThere (n ∷ counts) (fold max n counts) → IsThere (m ∷ counts) (fold max m counts) → IsThere (n ∷ m ∷ counts) (fold max (max n m) counts)
    by (inl h) one other = subst (λ k. IsThere (n ∷ m ∷ counts) (fold max k counts)) (sym (max-eq_left (omega (arith, h)))) (past n m (fold max n counts) counts one)
    by (inr h) one other = subst (λ k. IsThere (n ∷ m ∷ counts) (fold max k counts)) (sym (max-eq_right h)) (next n m (fold max m counts) counts other)

some_there : (counts : List ℕ) → 0 < length counts → IsThere counts (greatest counts)
unfolding greatest
some_there [] h = absurd (omega (arith, h))
some_there (n ∷ counts) h = subst (λ k. IsThere (n ∷ counts) (fold max k counts)) (sym (max-eq_right (omega arith))) (there n counts)

module _ (count : ℕ) (counts : List ℕ) where
  abbrev other : ℕ → Bool
  other n = not (eqb n count)

  no_other : (n : ℕ) → n ≡ count → other n ≡ true → ⊥
  no_other n e o = by (eqb_tells n count)
    where
      by : ((eqb n count ≡ true) × (n ≡ count)) ⊎ ((eqb n count ≡ false) × (n ≢ count)) → ⊥
      by (inl p) = let no : false ≡ true = ap not (sym p.0) ∙ o in absurd cc
      by (inr p) = absurd (p.1 e)

  is_count : (n : ℕ) → other n ≡ false → n ≡ count
  is_count n o = by (eqb_tells n count)
    where
      by : ((eqb n count ≡ true) × (n ≡ count)) ⊎ ((eqb n count ≡ false) × (n ≢ count)) → n ≡ count
      by (inl p) = p.1
      by (inr p) = let no : true ≡ false = ap not (sym p.0) ∙ o in absurd cc

  pub first_has : IsThere counts count → get_or counts (first_place count counts) 0 ≡ count
  first_has t = is_count (get_or counts (first_place count counts) 0) (prefix_len_stops other counts 0 (by (cases_lt t.place (first_place count counts))))
    where
      by : (t.place < first_place count counts) ⊎ (first_place count counts ≤ t.place) → first_place count counts < length counts
      by (inl h) = absurd (no_other (get_or counts t.place 0) t.is (prefix_len_passes other counts t.place 0 h))
      by (inr h) = omega (arith, h, t.within)

  pub before_has_not : (place : ℕ) → place < first_place count counts → get_or counts place 0 ≢ count
  before_has_not place h e = no_other (get_or counts place 0) e (prefix_len_passes other counts place 0 h)

pub named_is : (stops : List ℕ) → 0 < length stops → get_or stops (first_place (greatest stops) stops) 0 ≡ greatest stops
named_is stops h = first_has (greatest stops) stops (some_there stops h)

pub first_is : (stops : List ℕ) (place : ℕ) → place < first_place (greatest stops) stops → get_or stops place 0 < greatest stops
first_is stops place h = less (get_or stops place 0) (greatest stops) (most_is stops place) (before_has_not (greatest stops) stops place h)
  where
    less : (a b : ℕ) → a ≤ b → a ≢ b → a < b
    less a b h n = omega (arith, h, n)
