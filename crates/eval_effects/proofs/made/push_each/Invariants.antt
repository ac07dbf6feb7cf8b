use Rattle.std.proofs.Common.{◌≡◌, ◌++◌, take, map}
use Rattle.eval_effects.specs.Changes.{made_run}
use Rattle.eval_effects.proofs.made.push_each.Given as goal

abbrev pub invariant-loop-made : goal.invariant-loop-made
invariant-loop-made l = l.reported.items ≡ l.initial.reported.items ++ map (made_run l.became) (take l.made-index l.runs)
