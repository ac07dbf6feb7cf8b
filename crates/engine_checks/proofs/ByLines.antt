-- Elements that are put among others by their lines, one after another.
use Rattle.std.proofs.Common.{◌≡◌, ℕ, suc, ◌+◌, ◌<◌, Bool, true, false, true≢false, cond, nat_lt, ◌||◌, take-append-drop, lt-ltb, List, [], ◌∷◌, ◌++◌, drop, take, length, map, refl, ap, sym, ◌∙◌, append_assoc, arith}
use Rattle.std.specs.List.{list_any, prefix_len}
use Rattle.std.proofs.lemmas.List.{map-append, take-map, drop-map}
use Rattle.std.proofs.lemmas.List.Sums.{take_while-cons}
use Rattle.rule_remarks.specs.ByLine.{before, by_line, from_line}

module _ {X : Type 0} (line_of : X → ℕ) where
  -- an element more, with the others before it
  pub one_by_line : (others reported pushed rest following more done : List X) (x : X)
      → ((left : List X) → reported ++ by_line line_of left rest ≡ by_line line_of (done ++ left) others)
      → pushed ≡ reported ++ before line_of rest (line_of x) → following ≡ from_line line_of rest (line_of x) → more ≡ pushed ++ x ∷ []
      → (left : List X) → more ++ by_line line_of left following ≡ by_line line_of ((done ++ x ∷ []) ++ left) others
  one_by_line others reported pushed rest following more done x so_far h g k left =
      ap (λ (ms : List X). ms ++ by_line line_of left following) k
      ∙ append_assoc pushed (x ∷ []) (by_line line_of left following)
      ∙ ap (λ (ms : List X). ms ++ x ∷ by_line line_of left following) h
      ∙ append_assoc reported (before line_of rest (line_of x)) (x ∷ by_line line_of left following)
      ∙ ap (λ (os : List X). reported ++ (before line_of rest (line_of x) ++ x ∷ by_line line_of left os)) g
      ∙ so_far (x ∷ left)
      ∙ ap (λ (ls : List X). by_line line_of ls others) (sym (append_assoc done (x ∷ []) left))

  passed : (b : Bool) (n : ℕ) (x : X) (xs : List X) → b ≡ true → drop (cond b (1 + n) 0) (x ∷ xs) ≡ drop n xs
  passed true n x xs e =
      let one : 1 + n ≡ suc n = omega arith in
      ap (λ (k : ℕ). drop k (x ∷ xs)) one
  passed false n x xs e = absurd (true≢false (sym e))

  -- the first of the others goes over
  pub one_moved : (n : ℕ) (reported now all : List X) (x : X) (ys xs : List X) → reported ++ before line_of ys n ≡ all → ys ≡ x ∷ xs → line_of x < n → now ≡ reported ++ x ∷ [] → now ++ before line_of xs n ≡ all
  one_moved n reported now all x ys xs h whole less k =
      ap (λ (zs : List X). zs ++ before line_of xs n) k
      ∙ append_assoc reported (x ∷ []) (before line_of xs n)
      ∙ ap (λ (zs : List X). reported ++ zs) (sym (take_while-cons (λ y. nat_lt (line_of y) n) x xs ∙ ap (λ (b : Bool). cond b (x ∷ before line_of xs n) []) (lt-ltb (line_of x) n less)))
      ∙ ap (λ (zs : List X). reported ++ before line_of zs n) (sym whole)
      ∙ h

  pub one_passed : (n : ℕ) (x : X) (ys xs all : List X) → from_line line_of ys n ≡ all → ys ≡ x ∷ xs → line_of x < n → from_line line_of xs n ≡ all
  one_passed n x ys xs all h whole less =
      sym (passed (nat_lt (line_of x) n) (prefix_len (λ y. nat_lt (line_of y) n) xs) x xs (lt-ltb (line_of x) n less))
      ∙ ap (λ (zs : List X). from_line line_of zs n) (sym whole)
      ∙ h

  -- none is left to go over
  pub none_passed : (n : ℕ) (xs all : List X) → from_line line_of xs n ≡ all → before line_of xs n ≡ [] → xs ≡ all
  none_passed n xs all h e = sym (take-append-drop (prefix_len (λ y. nat_lt (line_of y) n) xs) xs) ∙ ap (λ (ys : List X). ys ++ from_line line_of xs n) e ∙ h

  pub none_before : (n : ℕ) (xs : List X) → list_any (λ x. nat_lt (line_of x) n) (take 1 xs) ≡ false → before line_of xs n ≡ []
  none_before n [] e = refl
  none_before n (x ∷ xs) e = by (nat_lt (line_of x) n) refl e
    where
      by : (b : Bool) → nat_lt (line_of x) n ≡ b → (b || false) ≡ false → before line_of (x ∷ xs) n ≡ []
      by true f g = absurd (true≢false g)
      by false f g = take_while-cons (λ y. nat_lt (line_of y) n) x xs ∙ ap (λ (c : Bool). cond c (x ∷ before line_of xs n) []) f

  -- without others
  pub alone : (xs : List X) → by_line line_of xs [] ≡ xs
  alone [] = refl
  alone (x ∷ xs) = ap (λ (ys : List X). x ∷ ys) (alone xs)

prefix_made : {X Y : Type 0} (f : X → Y) (p : Y → Bool) (xs : List X) → prefix_len (λ x. p (f x)) xs ≡ prefix_len p (map f xs)
prefix_made f p [] = refl
prefix_made f p (x ∷ xs) = ap (λ (n : ℕ). cond (p (f x)) (1 + n) 0) (prefix_made f p xs)

-- what elements are made into, merged by the same lines
pub made_by_line : {X Y : Type 0} (f : X → Y) (g : Y → ℕ) (xs others : List X) → map f (by_line (λ x. g (f x)) xs others) ≡ by_line g (map f xs) (map f others)
made_by_line f g [] others = refl
made_by_line {X} {Y} f g (x ∷ xs) others =
    let n : ℕ = prefix_len (λ y. nat_lt (g (f y)) (g (f x))) others in
    let same : n ≡ prefix_len (λ y. nat_lt (g y) (g (f x))) (map f others) = prefix_made f (λ y. nat_lt (g y) (g (f x))) others in
    map-append f (take n others) (x ∷ by_line (λ y. g (f y)) xs (drop n others))
    ∙ ap (λ (ys : List Y). ys ++ f x ∷ map f (by_line (λ y. g (f y)) xs (drop n others))) (sym (take-map f n others))
    ∙ ap (λ (ys : List Y). take n (map f others) ++ f x ∷ ys) (made_by_line f g xs (drop n others))
    ∙ ap (λ (ys : List Y). take n (map f others) ++ f x ∷ by_line g (map f xs) ys) (sym (drop-map f n others))
    ∙ ap (λ (k : ℕ). take k (map f others) ++ f x ∷ by_line g (map f xs) (drop k (map f others))) same

-- none to merge
pub none_others : {X Y : Type 0} (f : X → Y) (g : Y → ℕ) (xs others : List X) → length others ≡ 0 → map f xs ≡ by_line g (map f xs) (map f others)
none_others f g xs [] e = sym (alone g (map f xs))
none_others f g xs (x ∷ others) e = absurd (omega (arith, e))
