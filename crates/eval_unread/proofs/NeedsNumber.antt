-- Texts that are rendered only for a device with a number, and those that always are.
use Rattle.std.proofs.Common.{◌≡◌, Bool, true, false, not, cond, List, [], Option, Some, None, is_some, ap}
use Rattle.rule_tokens.specs.declared.piece.Piece.{Piece}
use Rattle.device_core.specs.Values.{NumberValue}

module _ (lacks : Option NumberValue → Bool) (pieces : List Piece) where
  pub needs_number : lacks None ≡ true → ((n : NumberValue) → lacks (Some n) ≡ false) → (number : Option NumberValue) → cond (not (lacks number)) pieces [] ≡ cond (is_some number) pieces []
  needs_number none some None = ap (λ (b : Bool). cond (not b) pieces []) none
  needs_number none some (Some n) = ap (λ (b : Bool). cond (not b) pieces []) (some n)

  pub needs_none : lacks None ≡ false → ((n : NumberValue) → lacks (Some n) ≡ false) → (number : Option NumberValue) → cond (not (lacks number)) pieces [] ≡ pieces
  needs_none none some None = ap (λ (b : Bool). cond (not b) pieces []) none
  needs_none none some (Some n) = ap (λ (b : Bool). cond (not b) pieces []) (some n)
