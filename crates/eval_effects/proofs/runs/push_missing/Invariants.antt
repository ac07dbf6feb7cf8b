use Rattle.std.proofs.Common.{◌≡◌, ◌++◌, take, flat_map}
use Rattle.eval_effects.specs.Inner.{missing_run}
use Rattle.eval_effects.proofs.runs.push_missing.Given as goal

abbrev pub invariant-loop-run : goal.invariant-loop-run
invariant-loop-run l = l.reported.items ≡ l.initial.reported.items ++ flat_map (missing_run l.became l.others) (take l.run-index l.runs)
