-- Whether two texts are equal, one byte after another.
use Rattle.std.proofs.Common.{◌≡◌, ◌≢◌, ℕ, false, List, [], ◌∷◌, length, refl, sym, arith, ◌==◌}
use Rattle.std.specs.Prelude.{nat_eq}
use Rattle.std.specs.Cmp.Lexicographic.{pointwise}
use Rattle.std.proofs.lemmas.Bool.{eq-eqb, ne_eqb}

pub same_first : (name text : List ℕ) (x y : ℕ) (a b : List ℕ) → name ≡ x ∷ a → text ≡ y ∷ b → y ≡ x → pointwise nat_eq a b ≡ pointwise nat_eq name text
same_first name text x y a b e f h = rw (e, f, h, eq-eqb x x refl) refl

pub other_first : (name text : List ℕ) (x y : ℕ) (a b : List ℕ) → name ≡ x ∷ a → text ≡ y ∷ b → y ≢ x → pointwise nat_eq name text ≡ false
other_first name text x y a b e f h = rw (e, f, ne_eqb x y (λ g. h (sym g))) refl

pub no_first : (name text : List ℕ) (x : ℕ) (a : List ℕ) → name ≡ x ∷ a → length text ≡ 0 → pointwise nat_eq name text ≡ false
no_first name [] x a e h = rw e refl
no_first name (y ∷ b) x a e h = absurd (omega arith)

pub none_left : (name text : List ℕ) → length name ≡ 0 → pointwise nat_eq name text ≡ (length text == 0)
none_left [] [] h = refl
none_left [] (y ∷ b) h = sym (ne_eqb (length (y ∷ b)) 0 (λ e. omega (arith, e)))
none_left (x ∷ a) text h = absurd (omega arith)
