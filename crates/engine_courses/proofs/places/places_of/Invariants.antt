use Rattle.std.proofs.Common.{◌≡◌, take, map}
use Rattle.engine_courses.proofs.places.places_of.Given as goal

abbrev pub invariant-loop-rule : goal.invariant-loop-rule
invariant-loop-rule l = l.places.items ≡ map (λ r. (r.file, r.line)) (take l.rule-index l.rules)
