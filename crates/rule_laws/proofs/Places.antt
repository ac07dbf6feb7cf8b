-- First places in a list, and what comes before and after them.
use Rattle.std.proofs.Common.{◌≡◌, ℕ, ◌+◌, Bool, true, false, cond, ◌||◌, List, ◌∷◌, [], ◌++◌, length, Some, refl, sym, ◌∙◌, ap, arith}
use Rattle.std.specs.List.{position, position_from, list_any}
use Rattle.std.proofs.lemmas.Iterator.Adapters.{position_from-zero}

-- a list cut at the first element that passes, whose place is k if the list starts at i
pub record Found (p : ℕ → Bool) (xs : List ℕ) (i k : ℕ) : Type 0 where
  pub before : List ℕ
  pub here : ℕ
  pub following : List ℕ
  pub whole : xs ≡ before ++ here ∷ following
  pub passes : p here ≡ true
  pub none_before : list_any p before ≡ false
  pub place : i + length before ≡ k

found_from : (p : ℕ → Bool) (i k : ℕ) (xs : List ℕ) → position_from p i xs ≡ Some k → Found p xs i k
found_from p i k [] e = absurd cc
found_from p i k (x ∷ xs) e = by_test (p x) refl e (found_from p (i + 1) k xs) where
  by_test : (v : Bool) → p x ≡ v → cond v (Some i) (position_from p (i + 1) xs) ≡ Some k → (position_from p (i + 1) xs ≡ Some k → Found p xs (i + 1) k) → Found p (x ∷ xs) i k
  by_test true t h again =
      let same : i ≡ k = cc in
      record { before = []; here = x; following = xs; whole = refl; passes = t; none_before = refl; place = omega arith }
  by_test false t h again =
      let rest : Found p xs (i + 1) k = again h in
      record {
        before = x ∷ rest.before;
        here = rest.here;
        following = rest.following;
        whole = ap (λ (ys : List ℕ). x ∷ ys) rest.whole;
        passes = rest.passes;
        none_before = ap (λ (b : Bool). b || list_any p rest.before) t ∙ rest.none_before;
        place = omega (arith, rest.place);
      }

pub found : (p : ℕ → Bool) (k : ℕ) (xs : List ℕ) → position p xs ≡ Some k → Found p xs 0 k
found p k xs e = found_from p 0 k xs (sym (position_from-zero p xs) ∙ e)

-- the first element that passes is found
joined_from : (p : ℕ → Bool) (i : ℕ) (before : List ℕ) (here : ℕ) (following : List ℕ) → list_any p before ≡ false → p here ≡ true
    → position_from p i (before ++ here ∷ following) ≡ Some (i + length before)
joined_from p i [] here following none passes =
    let start : i ≡ i + 0 = omega arith in
    ap (λ (v : Bool). cond v (Some i) (position_from p (i + 1) following)) passes ∙ ap Some start
joined_from p i (x ∷ before) here following none passes =
    let prefix : p x ≡ false = or_first (p x) (list_any p before) none in
    let back : list_any p before ≡ false = or_second (p x) (list_any p before) none in
    let next : i + 1 + length before ≡ i + length (x ∷ before) = omega arith in
    ap (λ (v : Bool). cond v (Some i) (position_from p (i + 1) (before ++ here ∷ following))) prefix
    ∙ joined_from p (i + 1) before here following back passes ∙ ap Some next where
      or_first : (a b : Bool) → a || b ≡ false → a ≡ false
      or_first true b h = h
      or_first false b h = refl

      or_second : (a b : Bool) → a || b ≡ false → b ≡ false
      or_second true b h = absurd cc
      or_second false b h = h

pub joined : (p : ℕ → Bool) (before : List ℕ) (here : ℕ) (following : List ℕ) → list_any p before ≡ false → p here ≡ true
    → position p (before ++ here ∷ following) ≡ Some (length before)
joined p before here following none passes =
    let start : 0 + length before ≡ length before = omega arith in
    position_from-zero p (before ++ here ∷ following) ∙ joined_from p 0 before here following none passes ∙ ap Some start
