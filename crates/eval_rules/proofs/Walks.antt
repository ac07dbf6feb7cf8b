-- The parts of a step, a part at a time.
use Rattle.std.proofs.Common.{◌≡◌, ℕ, ◌+◌, ◌<◌, ◌≤◌, Bool, true, false, ◌&&◌, List, [], ◌∷◌, length, drop, get_or, refl, ap, sym, ◌∙◌}
use Rattle.std.specs.List.{list_all}
use Rattle.std.proofs.lemmas.List.{drop_more, drop_all}
use Rattle.rule_types.specs.declared.part.Comparison.{Comparison}
use Rattle.eval_rendering.specs.Holding.{holds, one}
use Rattle.eval_state.specs.declared.scene.Scene.{Scene}
use Rattle.eval_rules.specs.Steps.{if_proceeding, result_step, walk}

module _ {S P : Type 0} (step : P → S → S × Bool) (parts : List P) (i : ℕ) where
  next_step : (x : P) (s : S) → i < length parts → x ≡ get_or parts i x → walk step (drop i parts) s ≡ if_proceeding (walk step (drop (i + 1) parts)) (step x s)
  unfolding walk
  next_step x s h is = ap (λ ps. walk step ps s) (drop_more parts i x h) ∙ ap (λ y. if_proceeding (walk step (drop (i + 1) parts)) (step y s)) (sym is)

  -- a part at which the rule goes on
  pub walk_on : (x : P) (s t : S) (on : Bool) → i < length parts → x ≡ get_or parts i x → (t, on) ≡ step x s → on ≡ true → walk step (drop (i + 1) parts) t ≡ walk step (drop i parts) s
  walk_on x s t on h is e advances = sym (next_step x s h is ∙ ap (if_proceeding (walk step (drop (i + 1) parts))) (sym e ∙ ap (λ b. (t, b)) advances))

  -- a part at which the rule stops
  pub walk_stop : (x : P) (s t : S) (on : Bool) → i < length parts → x ≡ get_or parts i x → (t, on) ≡ step x s → on ≡ false → (t, false) ≡ walk step (drop i parts) s
  walk_stop x s t on h is e stops = sym (next_step x s h is ∙ ap (if_proceeding (walk step (drop (i + 1) parts))) (sym e ∙ ap (λ b. (t, b)) stops))

  -- no part is left
  pub walk_end : (s : S) → length parts ≤ i → (s, true) ≡ walk step (drop i parts) s
  unfolding walk
  walk_end s h = sym (ap (λ ps. walk step ps s) (drop_all i parts h))

-- matches of the result change nothing, and all of them are to hold
pub results_hold : (parts : List Comparison) (s : Scene) → walk result_step parts s ≡ (s, list_all (holds (one s.state.result)) parts)
unfolding walk result_step
results_hold [] s = refl
results_hold (p ∷ ps) s = by (holds (one s.state.result) p) (results_hold ps s)
  where
    by : (b : Bool) → walk result_step ps s ≡ (s, list_all (holds (one s.state.result)) ps)
        → if_proceeding (walk result_step ps) (s, b) ≡ (s, b && list_all (holds (one s.state.result)) ps)
    by true h = h
    by false h = refl
