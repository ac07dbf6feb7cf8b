-- What sums over a list become as elements are left out, put in their places or cut out of a text.
use Rattle.std.proofs.Common.{ℕ, ◌+◌, ◌≤◌, Bool, true, false, List, [], ◌∷◌, length, filter, fold, if◌then◌else◌, arith}
use Rattle.std.proofs.lemmas.List.Sums.{sum_by-cons}
use Rattle.std.proofs.lemmas.List.Splits.{length-slice_split}
use Rattle.std.specs.List.{sum_by, slice_split, onto_first}
use Rattle.std.specs.declared.cmp.Ordering.{Ordering}
use Rattle.std.specs.declared.cmp.Ordering.TheVariants.{Less, Equal, Greater}
use Rattle.text_bytes.specs.Insertion.{put_by, text_order}
use Rattle.std.specs.Ordering.{match_ordering}
use Rattle.text_bytes.specs.Text.{Text}
use Rattle.eval_laws.specs.DeviceWeights.{text_weight}

-- sums of what is never greater
pub sum_less : {X : Type 0} (small great : X → ℕ) → ((x : X) → small x ≤ great x) → (xs : List X) → sum_by small xs ≤ sum_by great xs
sum_less small great each [] = omega arith
sum_less small great each (x ∷ xs) =
    let a = sum_by-cons small x xs in
    let b = sum_by-cons great x xs in
    let c = each x in
    let d = sum_less small great each xs in
    omega (arith, a, b, c, d)

module _ {X : Type 0} (weight : X → ℕ) where
  -- some of the elements
  pub filter_light : (keep : X → Bool) (xs : List X) → sum_by weight (filter keep xs) ≤ sum_by weight xs
  filter_light keep [] = omega arith
  filter_light keep (x ∷ xs) = by (keep x) (filter_light keep xs)
    where
      by : (b : Bool) → sum_by weight (filter keep xs) ≤ sum_by weight xs → sum_by weight (if b then x ∷ filter keep xs else filter keep xs) ≤ sum_by weight (x ∷ xs)
      by true more =
          let a = sum_by-cons weight x (filter keep xs) in
          let b = sum_by-cons weight x xs in
          omega (arith, a, b, more)
      by false more = let b = sum_by-cons weight x xs in omega (arith, b, more)

  -- an element in its place, if the winner of two weighs no more than both
  pub put_light : (text : X → List ℕ) (winner : X → X → X) → ((x new : X) → weight (winner x new) ≤ weight x + weight new) → (xs : List X) (new : X)
      → sum_by weight (put_by text winner xs new) ≤ sum_by weight xs + weight new
  put_light text winner light [] new = let a = sum_by-cons weight new [] in omega (arith, a)
  put_light text winner light (x ∷ xs) new = by (text_order (text x) (text new)) (put_light text winner light xs new)
    where
      by : (o : Ordering) → sum_by weight (put_by text winner xs new) ≤ sum_by weight xs + weight new
          → sum_by weight (match_ordering o (x ∷ put_by text winner xs new) (winner x new ∷ xs) (new ∷ x ∷ xs)) ≤ sum_by weight (x ∷ xs) + weight new
      by Less more =
          let a = sum_by-cons weight x (put_by text winner xs new) in
          let b = sum_by-cons weight x xs in
          omega (arith, a, b, more)
      by Equal more =
          let a = sum_by-cons weight (winner x new) xs in
          let b = sum_by-cons weight x xs in
          let c = light x new in
          omega (arith, a, b, c)
      by Greater more = let a = sum_by-cons weight new (x ∷ xs) in omega (arith, a)

  -- steps each of which adds no more than its own weight
  pub fold_light : {Y : Type 0} (own : Y → ℕ) (step : List X → Y → List X) → ((xs : List X) (y : Y) → sum_by weight (step xs y) ≤ sum_by weight xs + own y)
      → (xs : List X) (ys : List Y) → sum_by weight (fold step xs ys) ≤ sum_by weight xs + sum_by own ys
  fold_light own step each xs [] = omega arith
  fold_light own step each xs (y ∷ ys) =
      let a = fold_light own step each (step xs y) ys in
      let b = each xs y in
      let c = sum_by-cons own y ys in
      omega (arith, a, b, c)

onto_light : (b : ℕ) (parts : List Text) → 1 ≤ length parts → sum_by text_weight (onto_first b parts) ≤ sum_by text_weight parts + 1
onto_light b [] there = omega (arith, there)
onto_light b (part ∷ parts) there =
    let x = sum_by-cons text_weight (b ∷ part) parts in
    let y = sum_by-cons text_weight part parts in
    omega (arith, x, y)

-- the pieces of a text
pub split_light : (test : ℕ → Bool) (t : Text) → sum_by text_weight (slice_split test t) ≤ length t + 1
split_light test [] = omega arith
split_light test (b ∷ t) = by (test b) (split_light test t)
  where
    by : (is : Bool) → sum_by text_weight (slice_split test t) ≤ length t + 1
        → sum_by text_weight (if is then [] ∷ slice_split test t else onto_first b (slice_split test t)) ≤ length (b ∷ t) + 1
    by true more = let x = sum_by-cons text_weight [] (slice_split test t) in omega (arith, x, more)
    by false more =
        let parts = length-slice_split test t in
        let x = onto_light b (slice_split test t) (omega (arith, parts)) in
        omega (arith, x, more)
