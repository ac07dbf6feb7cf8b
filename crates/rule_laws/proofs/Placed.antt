-- The landings have at the place of each rule what becomes of it, and no other list does.
use Rattle.std.proofs.Common.{◌≡◌, ◌↔◌, suc, Bool, true, false, IsTrue, List, [], ◌∷◌, ◌++◌, length, slice_get, Some, reverse, refl, ap, sym, ◌∙◌, subst, arith}
use Rattle.std.proofs.lemmas.List.{append_assoc, append-nil, reverse-append, reverse-reverse}
use Rattle.rule_types.specs.Jumps.{Names, is_lost, is_unused, landings, landings_below}
use Rattle.rule_laws.specs.Landings.{AreLandings, IsLanding}
use Rattle.rule_types.specs.declared.jumps.Landing.{Landing}
use Rattle.rule_laws.proofs.Labelled.{lost_so, so_lost}
use Rattle.rule_laws.proofs.Reached.{so_unused, unused_so}

-- what becomes of a rule after these and before those
abbrev landing_of : List Names → Names → List Names → Landing
landing_of above rule below = record { lost = is_lost rule.goto below; unused = is_unused rule.label above }

-- rules before one of them, from the nearest on
gone_past : (above : List Names) (b : Names) (before : List Names) → reverse before ++ b ∷ above ≡ reverse (b ∷ before) ++ above
gone_past above b before = sym (ap (λ rs. rs ++ above) (reverse-append (b ∷ []) before) ∙ append_assoc (reverse before) (b ∷ []) above)

at_place : (above before : List Names) (rule : Names) (following : List Names) → slice_get (landings_below above (before ++ rule ∷ following)) (length before) ≡ Some (landing_of (reverse before ++ above) rule following)
at_place above [] rule following = refl
at_place above (b ∷ before) rule following = at_place (b ∷ above) before rule following ∙ ap (λ rs. Some (landing_of rs rule following)) (gone_past above b before)

length-landings : (above rules : List Names) → length (landings_below above rules) ≡ length rules
length-landings above [] = refl
length-landings above (r ∷ rules) = ap (λ n. suc n) (length-landings (r ∷ above) rules)

is_landing : (before : List Names) (rule : Names) (following : List Names) → IsLanding before rule following (landing_of (reverse before) rule following)
is_landing before rule following = record {
  lost = (lost_so rule following, so_lost rule following);
  unused = (unused_so before rule, so_unused before rule);
}

pub are_landings : (rules : List Names) → AreLandings rules (landings rules)
unfolding landings
are_landings rules = record {
  one_each = length-landings [] rules;
  each = λ before rule following is_present. (
    landing_of (reverse before) rule following,
    ap (λ rs. slice_get (landings_below [] rs) (length before)) is_present ∙ at_place [] before rule following ∙ ap (λ rs. Some (landing_of rs rule following)) (append-nil (reverse before)),
    is_landing before rule following,
  );
}

-- two tests of one fact are the same
same_test : {P : Type 0} (a b : Bool) → IsTrue a ↔ P → IsTrue b ↔ P → a ≡ b
same_test true true p q = refl
same_test true false p q = sym (q.1 (p.0 refl))
same_test false true p q = p.1 (q.0 refl)
same_test false false p q = refl

same_landing : (before : List Names) (rule : Names) (following : List Names) (l k : Landing) → IsLanding before rule following l → IsLanding before rule following k → l ≡ k
same_landing before rule following l k p q =
    λ i. record { lost = same_test l.lost k.lost p.lost q.lost i; unused = same_test l.unused k.unused p.unused q.unused i }

-- a list with what becomes of each rule after these is what is found of them
only_these : (above rules : List Names) (found : List Landing) → length found ≡ length rules
    → ((before : List Names) (rule : Names) (following : List Names) → rules ≡ before ++ rule ∷ following → (l : Landing) × (slice_get found (length before) ≡ Some l) × IsLanding (reverse above ++ before) rule following l)
    → found ≡ landings_below above rules
only_these above [] [] same each = refl
only_these above [] (l ∷ found) same each = absurd (omega arith)
only_these above (r ∷ rules) [] same each = absurd (omega arith)
only_these above (r ∷ rules) (l ∷ found) same each =
    let here = each [] r rules refl in
    let this : l ≡ landing_of above r rules =
    some_landing l here.0 here.1 ∙ same_landing (reverse above ++ []) r rules here.0 (landing_of above r rules) here.2
    (subst (λ (rs : List Names). IsLanding rs r rules (landing_of above r rules)) (sym (append-nil (reverse above)))
    (subst (λ (rs : List Names). IsLanding (reverse above) r rules (landing_of rs r rules)) (reverse-reverse above) (is_landing (reverse above) r rules))) in
    let rest : found ≡ landings_below (r ∷ above) rules =
    only_these (r ∷ above) rules found (omega arith)
    (λ before rule following is_present.
    let there = each (r ∷ before) rule following (ap (λ rs. r ∷ rs) is_present) in
    (there.0, there.1, subst (λ (rs : List Names). IsLanding rs rule following there.0) (after_both before) there.2)) in
    λ i. this i ∷ rest i
  where
    some_landing : (l k : Landing) → Some l ≡ Some k → l ≡ k
    some_landing l k e = cc

    after_both : (before : List Names) → reverse above ++ r ∷ before ≡ reverse (r ∷ above) ++ before
    after_both before = sym (ap (λ rs. rs ++ before) (reverse-append (r ∷ []) above) ∙ append_assoc (reverse above) (r ∷ []) before)

pub only_landings : (rules : List Names) (found : List Landing) → AreLandings rules found → found ≡ landings rules
unfolding landings
only_landings rules found are = only_these [] rules found are.one_each are.each
