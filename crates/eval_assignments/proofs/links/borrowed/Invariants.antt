use Rattle.std.proofs.Common.{◌≡◌, take, map}
use Rattle.eval_assignments.proofs.links.borrowed.Given as goal

abbrev pub invariant-loop-text : goal.invariant-loop-text
invariant-loop-text l = map (λ t. t.now) l.borrowed.items ≡ take l.text-index l.texts
