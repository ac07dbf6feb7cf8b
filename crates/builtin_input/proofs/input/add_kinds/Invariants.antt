use Rattle.std.specs.Prelude.{◌≡◌, ◌++◌, map, take}
use Rattle.builtin_input.specs.Kinds.{property_of}
use Rattle.builtin_input.specs.Input.{set}
use Rattle.builtin_input.proofs.input.add_kinds.Given as goal

abbrev pub invariant-loop-kind : goal.invariant-loop-kind
invariant-loop-kind l = l.properties.items ≡ l.fn.properties.items ++ map (λ kind. set (property_of kind)) (take l.kind-index l.kinds)
