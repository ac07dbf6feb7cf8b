-- Of two texts with which one text begins, one begins with the other.
use Rattle.std.proofs.Common.{◌≡◌, Bool, true, false, not, ◌&&◌, ◌||◌, nat_eq, [], ◌∷◌, refl, ap, sym, ◌∙◌, true≢false, eqb-true, eq-eqb}
use Rattle.std.specs.List.{starts_with}
use Rattle.text_bytes.specs.Text.{Text}
use Rattle.text_bytes.specs.Texts.{is_empty}
use Rattle.rule_remarks.specs.Relations.{part_ways}

pub first_holds : (a b : Bool) → (a && b) ≡ true → a ≡ true
first_holds true b h = refl
first_holds false b h = h

pub second_holds : (a b : Bool) → (a && b) ≡ true → b ≡ true
second_holds true b h = h
second_holds false b h = absurd (true≢false (sym h))

or_true : (a : Bool) → (a || true) ≡ true
or_true true = refl
or_true false = refl

one_begins : (x y t : Text) → starts_with nat_eq t x ≡ true → starts_with nat_eq t y ≡ true → (starts_with nat_eq y x || starts_with nat_eq x y) ≡ true
one_begins [] y t h k = refl
one_begins (a ∷ x) [] t h k = or_true (starts_with nat_eq [] (a ∷ x))
one_begins (a ∷ x) (b ∷ y) [] h k = absurd (true≢false (sym h))
one_begins (a ∷ x) (b ∷ y) (c ∷ t) h k =
    let one : a ≡ c = eqb-true a c (first_holds (nat_eq a c) (starts_with nat_eq t x) h) in
    let other : b ≡ c = eqb-true b c (first_holds (nat_eq b c) (starts_with nat_eq t y) k) in
    ap (λ (u : Bool). (u && starts_with nat_eq y x) || (nat_eq b a && starts_with nat_eq x y)) (eq-eqb a b (one ∙ sym other))
    ∙ ap (λ (u : Bool). starts_with nat_eq y x || (u && starts_with nat_eq x y)) (eq-eqb b a (other ∙ sym one))
    ∙ one_begins x y t (second_holds (nat_eq a c) (starts_with nat_eq t x) h) (second_holds (nat_eq b c) (starts_with nat_eq t y) k)

parted : (p q r s : Bool) → ((p && q) && (not r && not s)) ≡ true → (s || r) ≡ true → true ≡ false
parted p q true s h k = sym (second_holds (p && q) false h)
parted p q false true h k = sym (second_holds (p && q) false h)
parted p q false false h k = sym k

-- a text that begins with one of two texts that part ways does not begin with the other
pub no_text_has_both : (x y t : Text) → part_ways x y ≡ true → starts_with nat_eq t x ≡ true → starts_with nat_eq t y ≡ false
unfolding part_ways
no_text_has_both x y t h k = by (starts_with nat_eq t y) refl
  where
    by : (b : Bool) → starts_with nat_eq t y ≡ b → b ≡ false
    by true e = parted (not (is_empty x)) (not (is_empty y)) (starts_with nat_eq x y) (starts_with nat_eq y x) h (one_begins x y t k e)
    by false e = refl
