use Rattle.std.proofs.Common.{◌≡◌, ℕ, ◌+◌, ◌^◌, ◌<◌, ◌≤◌, List, arith, refl}
use Rattle.trie_nodes.specs.Tree.{node_at}
use Rattle.trie_build.specs.Contents.{node_of}
use Rattle.trie_build.specs.Header.{header_of}
use Rattle.trie_build.specs.Records.{node}
use Rattle.trie_build.specs.declared.index_fault.IndexFault.TheVariants.{Shape, Size}
use Rattle.trie_build.proofs.NodeLemmas.{length_nodes, length_values, node_is}
use Rattle.trie_build.proofs.CheckSums.{values_within}
use Rattle.trie_build.proofs.tree.IndexDatabase.values_of.Goals as goal

pub node-node-requires : goal.node-node-requires
node-node-requires c = omega (arith, length_nodes c.self.inside.records c.args.self.now c.self.view_is)

pub overflow_add-result : goal.overflow_add-result
overflow_add-result c =
    let bytes : List ℕ = c.self.inside.records in
    let inside : c.args.i < (header_of bytes).nodes = omega (arith, length_nodes bytes c.args.self.now c.self.view_is) in
    let among : (node bytes c.args.i).first_value + (node bytes c.args.i).values ≤ (header_of bytes).values = values_within bytes c.args.i (c.self.invariant Shape) inside in
    let few : (header_of bytes).values ≤ 2 ^ 24 = (c.self.invariant Size).values in
    rw c.node-node.ensures (omega (arith, among, few))

pub returns : goal.returns
returns c =
    let bytes : List ℕ = c.self.inside.records in
    let inside : c.args.i < (header_of bytes).nodes = omega (arith, length_nodes bytes c.args.self.now c.self.view_is) in
    let own : node_at c.args.self.now.nodes c.args.i ≡ node_of bytes c.args.i = node_is bytes c.args.self.now c.self.view_is c.args.i inside in
    let among : (node bytes c.args.i).first_value + (node bytes c.args.i).values ≤ (header_of bytes).values = values_within bytes c.args.i (c.self.invariant Shape) inside in
    record {
      start = rw (own, c.node-node.ensures) refl;
      end = rw (own, c.node-node.ensures) refl;
      within = rw (length_values bytes c.args.self.now c.self.view_is, c.node-node.ensures) among;
    }
