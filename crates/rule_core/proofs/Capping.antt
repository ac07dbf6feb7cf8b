-- Sums that stop at a greatest number.
use Rattle.std.proofs.Common.{◌≡◌, ℕ, ◌+◌, ◌<◌, ◌≤◌, length, min, sym, ◌∙◌, ap, arith, ◌⊎◌, inl, inr}
use Rattle.std.proofs.Math.Nat.{min-eq_left, min-eq_right}
use Rattle.std.proofs.lemmas.Bool.{cases_lt}
use Rattle.rule_types.specs.Rules.{Rule, name_count, rule_tokens}

min_more : (a b top : ℕ) → min (min a top + b) top ≡ min (a + b) top
min_more a b top = by_case (cases_lt a top) where
  by_case : (a < top) ⊎ (top ≤ a) → min (min a top + b) top ≡ min (a + b) top
  by_case (inl h) =
      let under : a ≤ top = omega arith in
      ap (λ (x : ℕ). min (x + b) top) (min-eq_left under)
  by_case (inr h) =
      let over : top ≤ a + b = omega arith in
      let same : top ≤ top + b = omega arith in
      ap (λ (x : ℕ). min (x + b) top) (min-eq_right h) ∙ min-eq_right same ∙ sym (min-eq_right over)

-- one number more
pub capped_more : (r s a b n top : ℕ) → r ≡ min a top → s ≡ min (r + b) top → a + b ≡ n → s ≡ min n top
capped_more r s a b n top e f g = f ∙ ap (λ (x : ℕ). min (x + b) top) e ∙ min_more a b top ∙ ap (λ (x : ℕ). min x top) g

-- the tokens of a rule, counted from the left
pub counted : (r : Rule) (l g p u a e s : ℕ) → l ≡ name_count r.label → g ≡ name_count r.goto → p ≡ length r.plain → u ≡ length r.up → a ≡ length r.acts → e ≡ length r.results → s ≡ length r.sets
    → l + g + p + u + a + e + s ≡ rule_tokens r
unfolding rule_tokens
counted r l g p u a e s h i j k m n o =
    let right : l + g + p + u + a + e + s ≡ l + (g + (p + (u + (a + (e + s))))) = omega arith in
    right ∙ ap (λ (x : ℕ). x + (g + (p + (u + (a + (e + s)))))) h ∙ ap (λ (x : ℕ). name_count r.label + (x + (p + (u + (a + (e + s)))))) i ∙ ap (λ (x : ℕ). name_count r.label + (name_count r.goto + x)) (sum_of_five p u a e s (length r.plain) (length r.up) (length r.acts) (length r.results) (length r.sets) j k m n o) where
      sum_of_five : (p u a e s q v b f t : ℕ) → p ≡ q → u ≡ v → a ≡ b → e ≡ f → s ≡ t → p + (u + (a + (e + s))) ≡ q + (v + (b + (f + t)))
      sum_of_five p u a e s q v b f t h i j k m = omega arith
