use Rattle.std.proofs.Common.{◌≡◌, drop, nat_le}
use Rattle.eval_acts.specs.BuiltinRuns.{most_set, properties_size}
use Rattle.eval_acts.proofs.builtin_runs.may_be_set.Given as goal

abbrev pub invariant-loop-name : goal.invariant-loop-name
invariant-loop-name l = nat_le (properties_size (drop l.name-index l.properties)) l.room ≡ nat_le (properties_size l.fn.properties) most_set
