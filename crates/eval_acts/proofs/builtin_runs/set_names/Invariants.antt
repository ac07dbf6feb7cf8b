use Rattle.std.proofs.Common.{◌≡◌, length}
use Rattle.trie_nodes.specs.Query.{shown}
use Rattle.eval_state.specs.Properties.{properties_set}
use Rattle.eval_acts.specs.BuiltinRuns.{with_maker}
use Rattle.eval_acts.proofs.builtin_runs.set_names.Given as goal

abbrev pub invariant-loop-property : goal.invariant-loop-property
invariant-loop-property l = properties_set l.env (with_maker (shown l.found) l.rest) ≡ properties_set l.fn.env (with_maker (shown l.fn.found) l.fn.properties)

abbrev pub decreases-loop-property : goal.decreases-loop-property
decreases-loop-property l = length l.rest
