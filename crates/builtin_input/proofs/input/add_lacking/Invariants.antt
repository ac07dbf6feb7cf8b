use Rattle.std.specs.Prelude.{◌≡◌, ℕ, List, drop, map}
use Rattle.std.proofs.Common.{Bor}
use Rattle.text_tables.specs.Texts.{with_texts}
use Rattle.builtin_input.specs.Input.{attribute_needs}
use Rattle.builtin_input.proofs.input.add_lacking.Given as goal

abbrev pub invariant-loop-name : goal.invariant-loop-name
invariant-loop-name l = with_texts l.needs (attribute_needs l.event l.device (map (λ (name : Bor (List ℕ)). name.now) (drop l.name-index l.names))) ≡ with_texts l.fn.needs (attribute_needs l.event l.device (map (λ (name : Bor (List ℕ)). name.now) l.names))
