use Rattle.std.proofs.Common.{◌≡◌, ◌∷◌, drop, map}
use Rattle.std.specs.List.{join_with_byte}
use Rattle.text_bytes.specs.Names.{slash}
use Rattle.eval_assignments.proofs.links.joined.Given as goal

abbrev pub invariant-loop-component : goal.invariant-loop-component
invariant-loop-component l = join_with_byte slash (l.path.items ∷ map (λ t. t.now) (drop l.component-index l.others)) ≡ join_with_byte slash (map (λ t. t.now) l.fn.components)
