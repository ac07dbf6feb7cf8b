use Rattle.std.proofs.Common.{◌≡◌, ◌∷◌, map, take}
use Rattle.engine_courses.proofs.unused.rows.Row.new.Given as goal

abbrev pub invariant-loop-key : goal.invariant-loop-key
invariant-loop-key l = l.ends.items ≡ 0 ∷ map (λ key. 0) (take l._key-index l._key-items)
