use Rattle.std.proofs.Common.{◌≡◌, ℕ, ◌^◌, ◌<◌, ◌≤◌, List, ap, arith, refl}
use Rattle.trie_nodes.specs.Tree.{node_at}
use Rattle.trie_build.specs.Contents.{node_of}
use Rattle.trie_build.specs.Header.{header_of}
use Rattle.trie_build.specs.Records.{node}
use Rattle.trie_nodes.specs.declared.node.Node.{Node}
use Rattle.trie_build.specs.declared.index_fault.IndexFault.TheVariants.{Size}
use Rattle.trie_build.proofs.NodeLemmas.{children_within, length_nodes, node_is, tree}
use Rattle.trie_build.proofs.tree.IndexNodes.children.Goals as goal

pub node-node-requires : goal.node-node-requires
node-node-requires c = omega (arith, length_nodes c.self.inside.records c.args.self.now c.self.view_is)

pub overflow_add-result : goal.overflow_add-result
overflow_add-result c =
    let bytes : List ℕ = c.self.inside.records in
    let inside : c.args.i < (header_of bytes).nodes = omega (arith, length_nodes bytes c.args.self.now c.self.view_is) in
    let own : node_at c.args.self.now.nodes c.args.i ≡ node_of bytes c.args.i = node_is bytes c.args.self.now c.self.view_is c.args.i inside in
    let among = children_within c.args.self.now.nodes c.args.i (tree bytes c.args.self.now c.self.view_is c.self.invariant) c.requires in
    let first : (node_at c.args.self.now.nodes c.args.i).first ≡ (node bytes c.args.i).first = ap (λ (n : Node). n.first) own in
    let count : (node_at c.args.self.now.nodes c.args.i).count ≡ (node bytes c.args.i).count = ap (λ (n : Node). n.count) own in
    let few : (header_of bytes).nodes ≤ 2 ^ 26 = (c.self.invariant Size).nodes in
    rw c.node-node.ensures (omega (arith, among, first, count, few, length_nodes bytes c.args.self.now c.self.view_is))

pub returns-clause-start : goal.returns-clause-start
returns-clause-start c =
    let bytes : List ℕ = c.self.inside.records in
    let inside : c.args.i < (header_of bytes).nodes = omega (arith, length_nodes bytes c.args.self.now c.self.view_is) in
    let own : node_at c.args.self.now.nodes c.args.i ≡ node_of bytes c.args.i = node_is bytes c.args.self.now c.self.view_is c.args.i inside in
    rw (own, c.node-node.ensures) refl

pub returns-clause-end : goal.returns-clause-end
returns-clause-end c =
    let bytes : List ℕ = c.self.inside.records in
    let inside : c.args.i < (header_of bytes).nodes = omega (arith, length_nodes bytes c.args.self.now c.self.view_is) in
    let own : node_at c.args.self.now.nodes c.args.i ≡ node_of bytes c.args.i = node_is bytes c.args.self.now c.self.view_is c.args.i inside in
    rw (own, c.node-node.ensures) refl
