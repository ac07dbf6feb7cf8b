use Rattle.std.proofs.Common.{◌≡◌, ◌∷◌, ◌++◌, take, map, flat_map}
use Rattle.text_bytes.specs.Names.{space}
use Rattle.eval_effects.specs.Shown.{shown}
use Rattle.eval_courses.proofs.subjects.push_members.Given as goal

abbrev pub invariant-loop-other : goal.invariant-loop-other
invariant-loop-other l = l.text.items ≡ l.initial.text.items ++ flat_map (λ other. space ∷ shown other) (map (λ t. t.items) (take l.other-index l.others))
