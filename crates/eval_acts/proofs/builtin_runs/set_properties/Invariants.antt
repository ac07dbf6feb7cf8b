use Rattle.std.proofs.Common.{◌≡◌, drop}
use Rattle.eval_state.specs.Properties.{properties_set}
use Rattle.eval_acts.proofs.builtin_runs.set_properties.Given as goal

abbrev pub invariant-loop-name : goal.invariant-loop-name
invariant-loop-name l = properties_set l.env (drop l.name-index l.properties) ≡ properties_set l.fn.env l.fn.properties
