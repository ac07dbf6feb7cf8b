-- Members as ranges and single bytes.
use Rattle.std.proofs.Common.{◌≡◌, ℕ, Bool, true, false, cond, ◌||◌, ◌&&◌, eqb, leb, List, ◌∷◌, [], Option, Some, None, refl, ◌∙◌, ap}
use Rattle.std.specs.List.{list_any}
use Rattle.std.proofs.lemmas.Bool.{eqb-true}
use Rattle.text_bytes.specs.Names.{minus}
use Rattle.text_core.specs.Sets.{Member, alone, range, AreMembers, member_has, members_have}
use Rattle.text_core.proofs.Members.{members_have-single, members_have-range}

-- how some members are written
abbrev Written : List ℕ → Type 0
Written m = (members : List Member) × AreMembers members m

pub written : (m : List ℕ) → Written m
written [] = ([], refl)
written (x ∷ []) = (alone x ∷ [], ([], refl, refl, refl))
written (x ∷ y ∷ []) = (alone x ∷ alone y ∷ [], (y ∷ [], refl, refl, ([], refl, refl, refl)))
written (x ∷ d ∷ y ∷ m) = by_minus (eqb d minus) refl (written m) (written (d ∷ y ∷ m)) where
  by_minus : (v : Bool) → eqb d minus ≡ v → Written m → Written (d ∷ y ∷ m) → Written (x ∷ d ∷ y ∷ m)
  by_minus true e following next = (range x y ∷ following.0, (m, ap (λ (c : ℕ). x ∷ c ∷ y ∷ m) (eqb-true d minus e), following.1))
  by_minus false e following next = (alone x ∷ next.0, (d ∷ y ∷ m, refl, ap (λ (v : Bool). let o : Option ℕ = cond v (Some y) None in o) e, next.1))

pub had : (members : List Member) (m : List ℕ) (b : ℕ) → AreMembers members m → members_have m b ≡ list_any (λ member. member_has member b) members
had [] m b are = ap (λ (u : List ℕ). members_have u b) are
had (alone x ∷ members) m b are =
    members_have-single m x are.0 b are.1 are.2 ∙ ap (λ (v : Bool). eqb x b || v) (had members are.0 b are.3)
had (range first last ∷ members) m b are =
    members_have-range m first (minus ∷ last ∷ are.0) last b are.1 refl ∙ ap (λ (v : Bool). (leb first b && leb b last) || v) (had members are.0 b are.2)
