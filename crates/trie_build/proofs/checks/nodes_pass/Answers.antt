use Rattle.std.proofs.Common.{ℕ, List, arith, below_more, rules}
use Rattle.trie_build.specs.Records.{node}
use Rattle.trie_build.specs.Accepted.{IsInPlace, IsLabelled, OrdersRise, children_before, values_before}
use Rattle.trie_build.proofs.CheckSums.{children_more, values_more}
use Rattle.trie_build.proofs.checks.nodes_pass.Goals as goal

pub loop-i-preserved : goal.loop-i-preserved
loop-i-preserved c =
    let bytes : List ℕ = c.args.records.now in
    let i : ℕ = c.loop-i.i in
    let read : IsInPlace i c.loop-i.children c.loop-i.values (node bytes i) = search rules in
    let here : IsInPlace i (children_before bytes i) (values_before bytes i) (node bytes i) =
    rw (c.loop-i.invariant.children, c.loop-i.invariant.values) at read in
    let label : IsLabelled c.header-header.result.sets i (node bytes i) = search rules in
    let order : OrdersRise bytes (node bytes i) = search rules in
    record {
      children = rw c.node-node.ensures (omega (arith, children_more bytes i, c.loop-i.invariant.children));
      values = rw c.node-node.ensures (omega (arith, values_more bytes i, c.loop-i.invariant.values));
      few_children = omega arith;
      few_values = omega arith;
      each = below_more _ _ c.loop-i.invariant.each here;
      labels = below_more _ _ c.loop-i.invariant.labels label;
      orders = below_more _ _ c.loop-i.invariant.orders order;
    }
