-- Bytes in either case.
use Rattle.std.proofs.Common.{◌≡◌, ℕ, ◌<◌, Bool, true, false, ◌||◌, ◌&&◌, ◌-◌, ◌≤◌, not, eqb, refl, sym, ◌∙◌, ap, List, ◌∷◌, [], inl, inr, arith, cond, ◌⊎◌, ◌+◌, ltb, leb}
use Rattle.std.specs.Char.{eq_ignore_ascii_case, is_ascii_alphabetic, to_ascii_lowercase, to_ascii_uppercase}
use Rattle.std.proofs.lemmas.Bool.{eqb-true, eq-eqb, le-leb, ltb-true, ltb-false, or_cases, or_left, or_right}
use Rattle.std.proofs.lemmas.Str.Ascii.{lowercase-lowercase, lowercase-uppercase}
use Rattle.text_core.specs.Items.{set_has, takes}
use Rattle.text_core.specs.Sets.{members_have, members_have_by, set_of, set_takes, HasInSomeCase}
use Rattle.text_core.specs.Spell.{itself}
use Rattle.text_core.specs.declared.item.Item.TheVariants.{Byte, Among}
use Rattle.text_core.specs.declared.reading.Reading.TheVariants.{Blind}
use Rattle.rule_laws.proofs.Belonging.{set_has-set_of}

-- what lower case makes of a byte, by the range that the byte is in
data LowerIs (c n : ℕ) : Type 0 where
  lower_below : c < 65 → n ≡ c → LowerIs c n
  lower_letter : 64 < c → c < 91 → n ≡ c + 32 → LowerIs c n
  lower_above : 90 < c → n ≡ c → LowerIs c n

lower_is : (c : ℕ) → LowerIs c (to_ascii_lowercase c)
lower_is c = by_test (ltb c 65) (ltb c 91) refl refl where
  by_test : (v w : Bool) → ltb c 65 ≡ v → ltb c 91 ≡ w → LowerIs c (cond v c (cond w (c + 32) c))
  by_test true w e f = lower_below (ltb-true c 65 e) refl
  by_test false true e f = lower_letter (ltb-false c 65 e) (ltb-true c 91 f) refl
  by_test false false e f = lower_above (ltb-false c 91 f) refl

-- what upper case makes of it
data UpperIs (c n : ℕ) : Type 0 where
  upper_below : c < 97 → n ≡ c → UpperIs c n
  upper_letter : 96 < c → c < 123 → n + 32 ≡ c → UpperIs c n
  upper_above : 122 < c → n ≡ c → UpperIs c n

upper_is : (c : ℕ) → UpperIs c (to_ascii_uppercase c)
upper_is c = by_test (ltb c 97) (ltb c 123) refl refl where
  by_test : (v w : Bool) → ltb c 97 ≡ v → ltb c 123 ≡ w → UpperIs c (cond v c (cond w (c - 32) c))
  by_test true w e f = upper_below (ltb-true c 97 e) refl
  by_test false true e f = let low : 97 ≤ c = ltb-false c 97 e in upper_letter low (ltb-true c 123 f) (omega arith)
  by_test false false e f = upper_above (ltb-false c 123 f) refl

-- a byte that is equal apart from its case is the one case or the other
one_case : (c b : ℕ) → to_ascii_lowercase c ≡ to_ascii_lowercase b → (c ≡ to_ascii_lowercase b) ⊎ (c ≡ to_ascii_uppercase b)
one_case c b e = by_lower (to_ascii_lowercase c) (to_ascii_lowercase b) (to_ascii_uppercase b) (lower_is c) (lower_is b) (upper_is b) e where
  by_lower : (l m u : ℕ) → LowerIs c l → LowerIs b m → UpperIs b u → l ≡ m → (c ≡ m) ⊎ (c ≡ u)
  by_lower l m u (lower_below h k) lb ub same = inl (sym k ∙ same)
  by_lower l m u (lower_above h k) lb ub same = inl (sym k ∙ same)
  by_lower l m u (lower_letter g h k) (lower_below i j) (upper_below p q) same = inr (omega arith)
  by_lower l m u (lower_letter g h k) (lower_below i j) (upper_letter n p q) same = inr (omega arith)
  by_lower l m u (lower_letter g h k) (lower_below i j) (upper_above p q) same = inr (omega arith)
  by_lower l m u (lower_letter g h k) (lower_letter a i j) (upper_below p q) same = inr (omega arith)
  by_lower l m u (lower_letter g h k) (lower_letter a i j) (upper_letter n p q) same = inr (omega arith)
  by_lower l m u (lower_letter g h k) (lower_letter a i j) (upper_above p q) same = inr (omega arith)
  by_lower l m u (lower_letter g h k) (lower_above i j) (upper_below p q) same = inr (omega arith)
  by_lower l m u (lower_letter g h k) (lower_above i j) (upper_letter n p q) same = inr (omega arith)
  by_lower l m u (lower_letter g h k) (lower_above i j) (upper_above p q) same = inr (omega arith)

-- the members have a byte in some case if they have it in lower or in upper case
pub some_case : (members : List ℕ) (b : ℕ) → members_have_by Blind members b ≡ true → HasInSomeCase members b
some_case members b e = by_case (or_cases (members_have members (to_ascii_lowercase b)) (members_have members (to_ascii_uppercase b)) e) where
  by_case : (members_have members (to_ascii_lowercase b) ≡ true) ⊎ (members_have members (to_ascii_uppercase b) ≡ true) → HasInSomeCase members b
  by_case (inl h) = record { member = to_ascii_lowercase b; among = h; equal = eq-eqb (to_ascii_lowercase (to_ascii_lowercase b)) (to_ascii_lowercase b) (lowercase-lowercase b) }
  by_case (inr h) = record { member = to_ascii_uppercase b; among = h; equal = eq-eqb (to_ascii_lowercase (to_ascii_uppercase b)) (to_ascii_lowercase b) (lowercase-uppercase b) }

pub has_some_case : (members : List ℕ) (b : ℕ) → HasInSomeCase members b → members_have_by Blind members b ≡ true
has_some_case members b h = by_case (one_case h.member b (eqb-true (to_ascii_lowercase h.member) (to_ascii_lowercase b) h.equal)) where
  by_case : (h.member ≡ to_ascii_lowercase b) ⊎ (h.member ≡ to_ascii_uppercase b) → members_have_by Blind members b ≡ true
  by_case (inl e) = or_left (members_have members (to_ascii_lowercase b)) (members_have members (to_ascii_uppercase b)) (sym (ap (members_have members) e) ∙ h.among)
  by_case (inr e) = or_right (members_have members (to_ascii_lowercase b)) (members_have members (to_ascii_uppercase b)) (sym (ap (members_have members) e) ∙ h.among)

not_true : (v : Bool) → not v ≡ true → v ≡ true → ⊥
not_true true e f = cc
not_true false e f = cc

true_not : (v : Bool) → (v ≡ true → ⊥) → not v ≡ true
true_not true h = absurd (h refl)
true_not false h = refl

pub joined_set : (members : List ℕ) (b : ℕ) → b < 256 → (set_has (set_of (set_takes Blind false members)) b ≡ true → HasInSomeCase members b) × (HasInSomeCase members b → set_has (set_of (set_takes Blind false members)) b ≡ true)
joined_set members b byte =
    let is : set_has (set_of (set_takes Blind false members)) b ≡ members_have_by Blind members b = set_has-set_of (set_takes Blind false members) b byte in
    (λ e. some_case members b (sym is ∙ e), λ h. is ∙ has_some_case members b h)

pub negated_set : (members : List ℕ) (b : ℕ) → b < 256 → (set_has (set_of (set_takes Blind true members)) b ≡ true → HasInSomeCase members b → ⊥) × ((HasInSomeCase members b → ⊥) → set_has (set_of (set_takes Blind true members)) b ≡ true)
negated_set members b byte =
    let is : set_has (set_of (set_takes Blind true members)) b ≡ not (members_have_by Blind members b) = set_has-set_of (set_takes Blind true members) b byte in (
      λ e h. not_true (members_have_by Blind members b) (sym is ∙ e) (has_some_case members b h),
      λ none. is ∙ true_not (members_have_by Blind members b) (λ e. none (some_case members b e)),
    )

-- two tests that hold together are one
same_truth : (v w : Bool) → (v ≡ true → w ≡ true) → (w ≡ true → v ≡ true) → v ≡ w
same_truth true w h k = sym (h refl)
same_truth false true h k = k refl
same_truth false false h k = refl

-- a byte that is not a letter is in neither range of letters
no_letter : (b : ℕ) → is_ascii_alphabetic b ≡ false → (64 < b → b < 91 → ⊥) × (96 < b → b < 123 → ⊥)
no_letter b e = (λ g h. upper g h, λ g h. lower g h) where
  upper : 64 < b → b < 91 → ⊥
  upper g h =
      let low : leb 65 b ≡ true = le-leb 65 b (omega arith) in
      let high : leb b 90 ≡ true = le-leb b 90 (omega arith) in
      let wrong : is_ascii_alphabetic b ≡ true = or_left (leb 65 b && leb b 90) (leb 97 b && leb b 122) (ap (λ (v : Bool). v && leb b 90) low ∙ high) in
      cc

  lower : 96 < b → b < 123 → ⊥
  lower g h =
      let low : leb 97 b ≡ true = le-leb 97 b (omega arith) in
      let high : leb b 122 ≡ true = le-leb b 122 (omega arith) in
      let wrong : is_ascii_alphabetic b ≡ true = or_right (leb 65 b && leb b 90) (leb 97 b && leb b 122) (ap (λ (v : Bool). v && leb b 122) low ∙ high) in
      cc

not_letter_same : (b c : ℕ) → is_ascii_alphabetic b ≡ false → to_ascii_lowercase b ≡ to_ascii_lowercase c → b ≡ c
not_letter_same b c e same = by_case (one_case b c same) where
  lower : (n : ℕ) → LowerIs c n → b ≡ n → b ≡ c
  lower n (lower_below h k) is = is ∙ k
  lower n (lower_letter g h k) is = absurd ((no_letter b e).1 (omega arith) (omega arith))
  lower n (lower_above h k) is = is ∙ k

  upper : (n : ℕ) → UpperIs c n → b ≡ n → b ≡ c
  upper n (upper_below h k) is = is ∙ k
  upper n (upper_letter g h k) is = absurd ((no_letter b e).0 (omega arith) (omega arith))
  upper n (upper_above h k) is = is ∙ k

  by_case : (b ≡ to_ascii_lowercase c) ⊎ (b ≡ to_ascii_uppercase c) → b ≡ c
  by_case (inl h) = lower (to_ascii_lowercase c) (lower_is c) h
  by_case (inr h) = upper (to_ascii_uppercase c) (upper_is c) h

-- a byte that is not a letter is in one case only
pub alone : (b c : ℕ) → is_ascii_alphabetic b ≡ false → eqb b c ≡ eq_ignore_ascii_case b c
alone b c e =
    same_truth (eqb b c) (eq_ignore_ascii_case b c)
    (λ h. eq-eqb (to_ascii_lowercase b) (to_ascii_lowercase c) (ap to_ascii_lowercase (eqb-true b c h)))
    (λ h. eq-eqb b c (not_letter_same b c e (eqb-true (to_ascii_lowercase b) (to_ascii_lowercase c) h)))

-- the set of one letter
pub letter_set : (b c : ℕ) → c < 256 → set_has (set_of (set_takes Blind false (b ∷ []))) c ≡ eq_ignore_ascii_case b c
letter_set b c byte =
    set_has-set_of (set_takes Blind false (b ∷ [])) c byte
    ∙ same_truth (eqb b (to_ascii_lowercase c) || eqb b (to_ascii_uppercase c)) (eq_ignore_ascii_case b c)
    (λ h. eq-eqb (to_ascii_lowercase b) (to_ascii_lowercase c) (in_case (or_cases (eqb b (to_ascii_lowercase c)) (eqb b (to_ascii_uppercase c)) h)))
    (λ h. either (one_case b c (eqb-true (to_ascii_lowercase b) (to_ascii_lowercase c) h))) where
      in_case : (eqb b (to_ascii_lowercase c) ≡ true) ⊎ (eqb b (to_ascii_uppercase c) ≡ true) → to_ascii_lowercase b ≡ to_ascii_lowercase c
      in_case (inl h) = ap to_ascii_lowercase (eqb-true b (to_ascii_lowercase c) h) ∙ lowercase-lowercase c
      in_case (inr h) = ap to_ascii_lowercase (eqb-true b (to_ascii_uppercase c) h) ∙ lowercase-uppercase c

      either : (b ≡ to_ascii_lowercase c) ⊎ (b ≡ to_ascii_uppercase c) → (eqb b (to_ascii_lowercase c) || eqb b (to_ascii_uppercase c)) ≡ true
      either (inl h) = or_left (eqb b (to_ascii_lowercase c)) (eqb b (to_ascii_uppercase c)) (eq-eqb b (to_ascii_lowercase c) h)
      either (inr h) = or_right (eqb b (to_ascii_lowercase c)) (eqb b (to_ascii_uppercase c)) (eq-eqb b (to_ascii_uppercase c) h)

-- what a byte that means itself takes, read blind
pub itself_takes : (b c : ℕ) → c < 256 → takes (itself Blind b) c ≡ eq_ignore_ascii_case b c
itself_takes b c byte = by_letter (is_ascii_alphabetic b) refl where
  by_letter : (v : Bool) → is_ascii_alphabetic b ≡ v → takes (cond v (Among (set_of (set_takes Blind false (b ∷ [])))) (Byte b)) c ≡ eq_ignore_ascii_case b c
  by_letter true e = letter_set b c byte
  by_letter false e = alone b c e

-- upper case is the same of a byte and of its lower case
pub upper_of_lower : (b : ℕ) → to_ascii_uppercase (to_ascii_lowercase b) ≡ to_ascii_uppercase b
upper_of_lower b = by_lower (to_ascii_lowercase b) (lower_is b) where
  by_upper : (l w u : ℕ) → UpperIs l w → UpperIs b u → 64 < b → b < 91 → l ≡ b + 32 → w ≡ u
  by_upper l w u (upper_below h k) (upper_below i j) low high e = omega arith
  by_upper l w u (upper_below h k) (upper_letter n i j) low high e = omega arith
  by_upper l w u (upper_below h k) (upper_above i j) low high e = omega arith
  by_upper l w u (upper_letter m h k) (upper_below i j) low high e = omega arith
  by_upper l w u (upper_letter m h k) (upper_letter n i j) low high e = omega arith
  by_upper l w u (upper_letter m h k) (upper_above i j) low high e = omega arith
  by_upper l w u (upper_above h k) (upper_below i j) low high e = omega arith
  by_upper l w u (upper_above h k) (upper_letter n i j) low high e = omega arith
  by_upper l w u (upper_above h k) (upper_above i j) low high e = omega arith

  by_lower : (l : ℕ) → LowerIs b l → to_ascii_uppercase l ≡ to_ascii_uppercase b
  by_lower l (lower_below h k) = ap to_ascii_uppercase k
  by_lower l (lower_letter g h k) = by_upper l (to_ascii_uppercase l) (to_ascii_uppercase b) (upper_is l) (upper_is b) g h k
  by_lower l (lower_above h k) = ap to_ascii_uppercase k
