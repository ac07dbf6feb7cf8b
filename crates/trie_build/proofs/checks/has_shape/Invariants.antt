use Rattle.std.proofs.Common.{◌≡◌, ℕ, ◌*◌, ◌^◌, ◌<◌, ◌≤◌}
use Rattle.trie_build.specs.Records.{node}
use Rattle.trie_build.specs.Accepted.{IsInPlace, children_before, values_before}
use Rattle.trie_build.proofs.checks.has_shape.Given as goal

abbrev pub invariant-loop-i : goal.invariant-loop-i
invariant-loop-i l = record {
  children : l.children ≡ children_before l.records l.i;
  values : l.values ≡ values_before l.records l.i;
  few_children : l.children ≤ l.i * 2 ^ 32;
  few_values : l.values ≤ l.i * 2 ^ 32;
  each : (k : ℕ) → k < l.i → IsInPlace k (children_before l.records k) (values_before l.records k) (node l.records k);
}
