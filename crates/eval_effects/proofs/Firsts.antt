-- The rule since which a key is final is the first one after which it is.
use Rattle.std.proofs.Common.{◌≡◌, Bool, true, false, cond, List, [], ◌∷◌, Option, Some, None, option_map, find, refl, ◌∙◌}
use Rattle.std.specs.Bool.{then_some}
use Rattle.std.specs.List.{fold}
use Rattle.std.specs.Option.{option_or}
use Rattle.rule_types.specs.Rules.{Rule}
use Rattle.eval_state.specs.Finals.{is_final}
use Rattle.eval_state.specs.declared.finals.FinalKey.{FinalKey}
use Rattle.eval_state.specs.declared.finals.Finals.{Finals}
use Rattle.eval_effects.specs.Laws.{since_over}
use Rattle.eval_effects.specs.Since.{Since, no_since, since_after}

module _ (k : FinalKey) where
  -- the first rule of some stages after which the key is final
  abbrev among : List (Rule × Finals) → Option Rule
  among stages = option_map (λ stage. stage.0) (find (λ stage. is_final stage.1 k) stages)

  following : (since : Since) (stages : List (Rule × Finals)) → fold (λ known stage. since_after known stage.0 stage.1) since stages k ≡ option_or (since k) (among stages)
  following since [] = by (since k)
    where
      by : (known : Option Rule) → known ≡ option_or known None
      by None = refl
      by (Some r) = refl
  following since (stage ∷ stages) =
      following (since_after since stage.0 stage.1) stages
      ∙ by (since k) (is_final stage.1 k)
    where
      by : (known : Option Rule) (final : Bool) → option_or (option_or known (then_some final stage.0)) (among stages) ≡ option_or known (option_map (λ s. s.0) (cond final (Some stage) (find (λ s. is_final s.1 k) stages)))
      by (Some r) true = refl
      by (Some r) false = refl
      by None true = refl
      by None false = refl

pub first_after : (stages : List (Rule × Finals)) (k : FinalKey) → since_over stages k ≡ option_map (λ stage. stage.0) (find (λ stage. is_final stage.1 k) stages)
first_after stages k = following k no_since stages
