-- Assignments reported one after another.
use Rattle.std.proofs.Common.{◌≡◌, ℕ, ◌+◌, ◌<◌, List, [], ◌∷◌, ◌++◌, length, drop, get_or, append_assoc, ap, sym, ◌∙◌}
use Rattle.std.proofs.lemmas.List.{drop_more}
use Rattle.text_bytes.specs.Text.{Text}
use Rattle.rule_types.specs.declared.part.Assignment.{Assignment}
use Rattle.rule_types.specs.Rules.{Rule}
use Rattle.eval_state.specs.declared.scene.Scene.{Scene}
use Rattle.eval_assignments.specs.Steps.{set_step}
use Rattle.eval_effects.specs.Effects.{effect, effects}
use Rattle.eval_effects.specs.Since.{Since}

-- one assignment more is reported
pub reported_more : (since : Since) (r : Rule) (s t : Scene) (sets : List Assignment) (i : ℕ) (a : Assignment) (reported : List Text) (text : Text) (all : List Text) → i < length sets → a ≡ get_or sets i a
    → t ≡ set_step r s a → text ≡ effect since r s a → reported ++ effects since r s (drop i sets) ≡ all → (reported ++ text ∷ []) ++ effects since r t (drop (i + 1) sets) ≡ all
reported_more since r s t sets i a reported text all within is made said h =
    let rest : List Assignment = drop (i + 1) sets in
    let next : drop i sets ≡ a ∷ rest = drop_more sets i a within ∙ ap (λ x. x ∷ rest) (sym is) in
    append_assoc reported (text ∷ []) (effects since r t rest)
    ∙ ap (λ x. reported ++ x ∷ effects since r t rest) said
    ∙ ap (λ u. reported ++ effect since r s a ∷ effects since r u rest) made
    ∙ ap (λ left. reported ++ effects since r s left) (sym next)
    ∙ h
