-- A parent's path with a slash after it begins a path.
use Rattle.std.proofs.Common.{◌≡◌, ℕ, Bool, true, false, ◌&&◌, List, [], ◌∷◌, ◌++◌, length, drop, refl, ap, sym, ◌∙◌, nat_eq, ◌==◌, arith}
use Rattle.std.specs.List.{starts_with}
use Rattle.text_bytes.specs.Names.{slash}
use Rattle.text_bytes.specs.Texts.{is_empty, begins_with}
use Rattle.device_core.specs.Parts.{is_parent_path}

same_both : (a b : ℕ) → nat_eq a b ≡ nat_eq b a
same_both a b = grind arith

and_true : (a : Bool) → (a && true) ≡ a
and_true true = refl
and_true false = refl

and_both : (a b c d : Bool) → b ≡ (c && d) → (a && b) ≡ ((a && c) && d)
and_both true b c d h = h
and_both false b c d h = refl

begins_is : (child parent : List ℕ) → starts_with nat_eq child (parent ++ slash ∷ []) ≡ (starts_with nat_eq child parent && begins_with slash (drop (length parent) child))
begins_is [] [] = refl
begins_is (c ∷ cs) [] = and_true (nat_eq slash c) ∙ same_both slash c
begins_is [] (p ∷ ps) = refl
begins_is (c ∷ cs) (p ∷ ps) = and_both (nat_eq p c) _ _ _ (begins_is cs ps)

-- of a parent that is not empty
pub parent_path_is : (child parent : List ℕ) → is_empty parent ≡ false → is_parent_path child parent ≡ (starts_with nat_eq child parent && begins_with slash (drop (length parent) child))
unfolding is_parent_path
parent_path_is child parent h = rw h (begins_is child parent)

filled : (xs : List ℕ) → (length xs == 0) ≡ false → is_empty xs ≡ false
filled [] h = h
filled (x ∷ xs) h = refl

-- the answer of a reader that looks after the parent
pub parent_answer : (child parent following : List ℕ) (r : Bool) → (length parent == 0) ≡ false → starts_with nat_eq child parent ≡ true → following ≡ drop (length parent) child → r ≡ begins_with slash following → r ≡ is_parent_path child parent
parent_answer child parent following r some prefix back says = says ∙ ap (begins_with slash) back ∙ sym (parent_path_is child parent (filled parent some) ∙ ap (λ b. b && begins_with slash (drop (length parent) child)) prefix)

-- the answer of a reader that finds another beginning
pub parent_not : (child parent : List ℕ) → (length parent == 0) ≡ false → starts_with nat_eq child parent ≡ false → false ≡ is_parent_path child parent
parent_not child parent some prefix = sym (parent_path_is child parent (filled parent some) ∙ ap (λ b. b && begins_with slash (drop (length parent) child)) prefix)
