use Rattle.std.proofs.Common.{◌≡◌, drop}
use Rattle.eval_state.specs.Properties.{properties_set}
use Rattle.trie_nodes.specs.Query.{shown}
use Rattle.eval_acts.proofs.imports.set_as_udev.Given as goal

abbrev pub invariant-loop-name : goal.invariant-loop-name
invariant-loop-name l = properties_set l.env (shown (drop l.name-index l.found)) ≡ properties_set l.fn.env (shown l.fn.found)
