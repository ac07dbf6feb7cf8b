use Rattle.std.proofs.Common.{◌≡◌, ◌∷◌, ◌++◌, drop, flat_map, map}
use Rattle.text_bytes.specs.Names.{slash}
use Rattle.eval_state.proofs.place.path_of.Given as goal

abbrev pub invariant-loop-component : goal.invariant-loop-component
invariant-loop-component l =
    l.path.items ++ flat_map (λ component. slash ∷ component) (map (λ t. t.now) (drop l.component-index l.components))
    ≡ flat_map (λ component. slash ∷ component) (map (λ t. t.now) l.fn.components)
