use Rattle.std.proofs.Common.{◌≡◌, take}
use Rattle.eval_effects.proofs.snapshot.copied_made.Given as goal

abbrev pub invariant-loop-one : goal.invariant-loop-one
invariant-loop-one l = l.copy.items ≡ take l.one-index l.made
