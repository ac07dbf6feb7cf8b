-- Where a class begins among members.
use Rattle.std.proofs.Common.{◌≡◌, ℕ, suc, ◌+◌, ◌≤◌, Bool, true, false, cond, ◌&&◌, List, ◌∷◌, [], ◌++◌, length, drop, Option, Some, None, eqb, refl, sym, ◌∙◌, ap, arith}
use Rattle.std.specs.List.{position_from, zip}
use Rattle.std.proofs.lemmas.Bool.{and_parts, eqb-true, eq-eqb}
use Rattle.std.proofs.lemmas.Iterator.Adapters.{position_from-zero}
use Rattle.text_bytes.specs.Names.{open_bracket}
use Rattle.rule_laws.specs.Grammar.{IsClassAt, NoClass}
use Rattle.text_core.specs.Spell.{opens_class, class_place}

-- two bytes with which a class begins
abbrev opens : ℕ × ℕ → Bool
opens pair = eqb pair.0 open_bracket && opens_class pair.1

-- the place of the first class, if the members start at i
abbrev class_from : ℕ → List ℕ → Option ℕ
class_from i m = position_from opens i (zip m (drop 1 m))

-- a class of the members is the front one, or one of the rest
here_or_later : (x y : ℕ) (m : List ℕ) (n : ℕ) → IsClassAt (x ∷ y ∷ m) n → opens (x, y) ≡ false → (k : ℕ) × (n ≡ suc k) × IsClassAt (y ∷ m) k
here_or_later x y m n a none = by_first_item a.before a.whole a.place where
  by_first_item : (before : List ℕ) → x ∷ y ∷ m ≡ before ++ open_bracket ∷ a.next ∷ a.following → length before ≡ n → (k : ℕ) × (n ≡ suc k) × IsClassAt (y ∷ m) k
  by_first_item [] e l =
      let first : x ≡ open_bracket = cc in
      let second : y ≡ a.next = cc in
      let both : opens (x, y) ≡ true = ap (λ (v : Bool). v && opens_class y) (eq-eqb x open_bracket first) ∙ ap opens_class second ∙ a.opens in
      absurd cc
  by_first_item (z ∷ before) e l =
      let tail : y ∷ m ≡ before ++ open_bracket ∷ a.next ∷ a.following = cc in
      (length before, sym l, record { before = before; next = a.next; following = a.following; whole = tail; opens = a.opens; place = refl })

short : (x : ℕ) (n : ℕ) → IsClassAt (x ∷ []) n → ⊥
short x n a = by_first_item a.before a.whole where
  by_first_item : (before : List ℕ) → x ∷ [] ≡ before ++ open_bracket ∷ a.next ∷ a.following → ⊥
  by_first_item [] e = cc
  by_first_item (z ∷ []) e = cc
  by_first_item (z ∷ w ∷ before) e = cc

nowhere : (n : ℕ) → IsClassAt [] n → ⊥
nowhere n a = by_first_item a.before a.whole where
  by_first_item : (before : List ℕ) → [] ≡ before ++ open_bracket ∷ a.next ∷ a.following → ⊥
  by_first_item [] e = cc
  by_first_item (z ∷ before) e = cc

none_from : (i : ℕ) (m : List ℕ) → class_from i m ≡ None → NoClass m
none_from i [] e = nowhere
none_from i (x ∷ []) e = short x
none_from i (x ∷ y ∷ m) e = by_test (opens (x, y)) refl e (none_from (i + 1) (y ∷ m)) where
  by_test : (v : Bool) → opens (x, y) ≡ v → cond v (Some i) (class_from (i + 1) (y ∷ m)) ≡ None → (class_from (i + 1) (y ∷ m) ≡ None → NoClass (y ∷ m)) → NoClass (x ∷ y ∷ m)
  by_test true t h again = absurd cc
  by_test false t h again = λ n a. let later = here_or_later x y m n a t in again h later.0 later.2

-- the first class among the members, whose place is k if they start at i
pub record First (m : List ℕ) (i k : ℕ) : Type 0 where
  pub place : ℕ
  pub is : IsClassAt m place
  pub first : (n : ℕ) → IsClassAt m n → place ≤ n
  pub from : i + place ≡ k

some_from : (i k : ℕ) (m : List ℕ) → class_from i m ≡ Some k → First m i k
some_from i k [] e = absurd cc
some_from i k (x ∷ []) e = absurd cc
some_from i k (x ∷ y ∷ m) e = by_test (opens (x, y)) refl e (some_from (i + 1) k (y ∷ m)) where
  by_test : (v : Bool) → opens (x, y) ≡ v → cond v (Some i) (class_from (i + 1) (y ∷ m)) ≡ Some k → (class_from (i + 1) (y ∷ m) ≡ Some k → First (y ∷ m) (i + 1) k) → First (x ∷ y ∷ m) i k
  by_test true t h again =
      let parts = and_parts (eqb x open_bracket) (opens_class y) t in
      let same : i ≡ k = cc in
      record {
        place = 0;
        is = record { before = []; next = y; following = m; whole = ap (λ (b : ℕ). b ∷ y ∷ m) (eqb-true x open_bracket parts.0); opens = parts.1; place = refl };
        first = λ n a. omega arith;
        from = omega arith;
      }
  by_test false t h again =
      let rest : First (y ∷ m) (i + 1) k = again h in
      record {
        place = suc rest.place;
        is = record { before = x ∷ rest.is.before; next = rest.is.next; following = rest.is.following; whole = ap (λ (b : List ℕ). x ∷ b) rest.is.whole; opens = rest.is.opens; place = ap suc rest.is.place };
        first = λ n a. let later = here_or_later x y m n a t in let least : rest.place ≤ later.0 = rest.first later.0 later.2 in omega (arith, later.1);
        from = omega (arith, rest.from);
      }

-- if no class is found there is none
pub no_class : (m : List ℕ) → class_place m ≡ None → NoClass m
no_class m e = none_from 0 m (sym (position_from-zero opens (zip m (drop 1 m))) ∙ e)

-- the place found is that of the first class
pub first_class : (m : List ℕ) (k : ℕ) → class_place m ≡ Some k → First m 0 k
first_class m k e = some_from 0 k m (sym (position_from-zero opens (zip m (drop 1 m))) ∙ e)

-- and without a class none is found
pub class_none : (m : List ℕ) → NoClass m → class_place m ≡ None
class_none m none = by_place (class_place m) refl where
  by_place : (o : Option ℕ) → class_place m ≡ o → o ≡ None
  by_place None e = refl
  by_place (Some k) e = let f : First m 0 k = first_class m k e in absurd (none f.place f.is)

pub class_some : (m : List ℕ) (n : ℕ) → IsClassAt m n → ((k : ℕ) → IsClassAt m k → n ≤ k) → class_place m ≡ Some n
class_some m n a least = by_place (class_place m) refl where
  by_place : (o : Option ℕ) → class_place m ≡ o → o ≡ Some n
  by_place None e = absurd (no_class m e n a)
  by_place (Some k) e =
      let f : First m 0 k = first_class m k e in
      let low : n ≤ f.place = least f.place f.is in
      let high : f.place ≤ n = f.first n a in
      let same : k ≡ n = omega (arith, f.from) in
      ap Some same
