use Rattle.std.proofs.Common.{◌≡◌, drop}
use Rattle.text_tables.specs.Pairs.{with_values}
use Rattle.trie_nodes.specs.Query.{shown}
use Rattle.eval_acts.proofs.imports.set_each.Given as goal

abbrev pub invariant-loop-name : goal.invariant-loop-name
invariant-loop-name l = with_values l.env (shown (drop l.name-index l.found)) ≡ with_values l.fn.env (shown l.fn.found)
