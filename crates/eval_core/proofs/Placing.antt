-- How many rules a jump skips, place by place.
use Rattle.std.proofs.Common.{◌≡◌, ℕ, zero, suc, ◌+◌, ◌<◌, ◌≤◌, not, List, [], ◌∷◌, length, get_or, drop, Option, Some, None, refl, ap, sym, ◌∙◌, arith}
use Rattle.std.proofs.lemmas.List.Sums.{prefix_len-le-length}
use Rattle.text_bytes.specs.Text.{Text}
use Rattle.rule_types.specs.Jumps.{is_named}
use Rattle.rule_types.specs.Rules.{Rule}
use Rattle.rule_types.specs.Passed.{over, skipped}

pub length-skipped : (rules : List Rule) → length (skipped rules) ≡ length rules
length-skipped [] = refl
length-skipped (r ∷ rs) = ap (λ n. suc n) (length-skipped rs)

-- what is at the place of a rule
pub at_place : (rules : List Rule) (i : ℕ) (r : Rule) (e : ℕ) → i < length rules → get_or (skipped rules) i e ≡ over (get_or rules i r).goto (drop (i + 1) rules)
at_place [] i r e h = absurd (omega (arith, h))
at_place (x ∷ rs) zero r e h = refl
at_place (x ∷ rs) (suc i) r e h =
    let next : suc i + 1 ≡ suc (i + 1) = omega arith in
    at_place rs i r e (omega (arith, h)) ∙ ap (λ n. over (get_or rs i r).goto (drop n (x ∷ rs))) (sym next)

over_within : (goto : Option Text) (below : List Rule) → over goto below ≤ length below
over_within None below = omega arith
over_within (Some name) below = prefix_len-le-length (λ r. not (is_named name r.label)) below

-- a jump ends at a rule, or after the last one
pub stays_within : (rules : List Rule) (i e : ℕ) → i < length rules → i + 1 + get_or (skipped rules) i e ≤ length rules
stays_within [] i e h = absurd (omega (arith, h))
stays_within (r ∷ rs) zero e h = let few = over_within r.goto rs in omega (arith, few)
stays_within (r ∷ rs) (suc i) e h = let more = stays_within rs i e (omega (arith, h)) in omega (arith, more)
