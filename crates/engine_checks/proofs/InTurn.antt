-- Elements that are put among others line by line: those of a line, then the others of it, then those of greater lines.
use Rattle.std.proofs.Common.{◌≡◌, ℕ, suc, ◌+◌, ◌<◌, ◌≤◌, Bool, true, false, true≢false, cond, nat_lt, lt-ltb, List, [], ◌∷◌, ◌++◌, drop, subst, refl, ap, sym, ◌∙◌, append_assoc, arith}
use Rattle.std.specs.List.{AllByRecursion, prefix_len}
use Rattle.std.proofs.lemmas.Bool.{le-ltb}
use Rattle.std.proofs.lemmas.List.Sums.{take_while-cons}
use Rattle.rule_core.specs.Laws.{RisesFrom}
use Rattle.rule_remarks.specs.ByLine.{before, by_line, from_line}

module _ {X : Type 0} (line_of : X → ℕ) where
  -- all are reported for this line
  abbrev pub AreOn : ℕ → List X → Type 0
  AreOn n xs = AllByRecursion (λ x. line_of x ≡ n) xs

  pub on_both : (n : ℕ) (xs ys : List X) → AreOn n xs → AreOn n ys → AreOn n (xs ++ ys)
  on_both n [] ys h k = k
  on_both n (x ∷ xs) ys h k = (h.0, on_both n xs ys h.1 k)

  rises_sooner : (m n : ℕ) (xs : List X) → m ≤ n → RisesFrom line_of n xs → RisesFrom line_of m xs
  rises_sooner m n [] l h = tt
  rises_sooner m n (x ∷ xs) l h = (omega (arith, l, h.0), h.1)

  -- those of a line, and then those of greater ones
  pub rises_after : (m n : ℕ) (xs ys : List X) → m ≤ n → AreOn n xs → RisesFrom line_of (n + 1) ys → RisesFrom line_of m (xs ++ ys)
  rises_after m n [] ys l h k = rises_sooner m (n + 1) ys (omega (arith, l)) k
  rises_after m n (x ∷ xs) ys l h k = (omega (arith, l, h.0), rises_after (line_of x) n xs ys (omega (arith, h.0)) h.1 k)

  before_none : (n : ℕ) (xs : List X) → RisesFrom line_of n xs → before line_of xs n ≡ []
  before_none n [] h = refl
  before_none n (x ∷ xs) h =
      take_while-cons (λ y. nat_lt (line_of y) n) x xs ∙ ap (λ (b : Bool). cond b (x ∷ before line_of xs n) []) (le-ltb (line_of x) n h.0)

  from_all : (n : ℕ) (xs : List X) → RisesFrom line_of n xs → from_line line_of xs n ≡ xs
  from_all n [] h = refl
  from_all n (x ∷ xs) h = ap (λ (b : Bool). drop (cond b (1 + prefix_len (λ y. nat_lt (line_of y) n) xs) 0) (x ∷ xs)) (le-ltb (line_of x) n h.0)

  -- those of a line come before others of it and of greater ones
  those_first : (n : ℕ) (xs more others : List X) → AreOn n xs → RisesFrom line_of n others → by_line line_of (xs ++ more) others ≡ xs ++ by_line line_of more others
  those_first n [] more others h k = refl
  those_first n (x ∷ xs) more others h k =
      let later : RisesFrom line_of (line_of x) others = subst (λ (m : ℕ). RisesFrom line_of m others) (sym h.0) k in
      ap (λ (ys : List X). ys ++ x ∷ by_line line_of (xs ++ more) (from_line line_of others (line_of x))) (before_none (line_of x) others later)
      ∙ ap (λ (ys : List X). x ∷ by_line line_of (xs ++ more) ys) (from_all (line_of x) others later)
      ∙ ap (λ (ys : List X). x ∷ ys) (those_first n xs more others h.1 k)

  passed : (b : Bool) (n : ℕ) (x : X) (xs : List X) → b ≡ true → drop (cond b (1 + n) 0) (x ∷ xs) ≡ drop n xs
  passed true n x xs e =
      let one : 1 + n ≡ suc n = omega arith in
      ap (λ (k : ℕ). drop k (x ∷ xs)) one
  passed false n x xs e = absurd (true≢false (sym e))

  -- one comes before those of greater lines
  one_next : (o : X) (more others : List X) → RisesFrom line_of (line_of o + 1) more → by_line line_of more (o ∷ others) ≡ o ∷ by_line line_of more others
  one_next o [] others h = refl
  one_next o (x ∷ more) others h =
      let m : ℕ = line_of x in
      let less : line_of o < m = omega (arith, h.0) in
      let is : nat_lt (line_of o) m ≡ true = lt-ltb (line_of o) m less in
      ap (λ (ys : List X). ys ++ x ∷ by_line line_of more (from_line line_of (o ∷ others) m))
      (take_while-cons (λ y. nat_lt (line_of y) m) o others ∙ ap (λ (b : Bool). cond b (o ∷ before line_of others m) []) is)
      ∙ ap (λ (ys : List X). o ∷ (before line_of others m ++ x ∷ by_line line_of more ys)) (passed (nat_lt (line_of o) m) (prefix_len (λ y. nat_lt (line_of y) m) others) o others is)

  others_next : (n : ℕ) (os more others : List X) → AreOn n os → RisesFrom line_of (n + 1) more → by_line line_of more (os ++ others) ≡ os ++ by_line line_of more others
  others_next n [] more others h k = refl
  others_next n (o ∷ os) more others h k =
      one_next o more (os ++ others) (subst (λ (m : ℕ). RisesFrom line_of (m + 1) more) (sym h.0) k)
      ∙ ap (λ (ys : List X). o ∷ ys) (others_next n os more others h.1 k)

  -- a line: those of it, the others of it, and then those of greater lines with the others of these
  pub line_in_turn : (n : ℕ) (xs more os others : List X) → AreOn n xs → AreOn n os → RisesFrom line_of (n + 1) more → RisesFrom line_of (n + 1) others
      → by_line line_of (xs ++ more) (os ++ others) ≡ xs ++ (os ++ by_line line_of more others)
  line_in_turn n xs more os others h k later following =
      those_first n xs more (os ++ others) h (rises_after n n os others (omega arith) k following)
      ∙ ap (λ (ys : List X). xs ++ ys) (others_next n os more others k later)
