use Rattle.std.proofs.Common.{◌≡◌, ℕ, ◌<◌, List, arith, sym, ◌∙◌, ap, eqb}
use Rattle.trie_nodes.specs.declared.node.Node.{Node}
use Rattle.trie_nodes.specs.Tree.{node_at, is_star}
use Rattle.trie_build.specs.Contents.{node_of}
use Rattle.trie_build.specs.Header.{header_of}
use Rattle.trie_build.specs.Records.{node}
use Rattle.trie_build.specs.declared.records.NodeRecord.{NodeRecord}
use Rattle.trie_build.proofs.LabelLemmas.{star_is}
use Rattle.trie_build.proofs.NodeLemmas.{length_nodes, node_is}
use Rattle.trie_build.proofs.tree.IndexNodes.is_star.Goals as goal

pub node-requires : goal.node-requires
node-requires c = omega (arith, length_nodes c.self.inside.records c.args.self.now c.self.view_is)

pub returns : goal.returns
returns c =
    let bytes : List ℕ = c.self.inside.records in
    let inside : c.args.i < (header_of bytes).nodes = omega (arith, length_nodes bytes c.args.self.now c.self.view_is) in
    let own : node_at c.args.self.now.nodes c.args.i ≡ node_of bytes c.args.i = node_is bytes c.args.self.now c.self.view_is c.args.i inside in
    ap (λ (n : NodeRecord). eqb n.kind 3) c.node.ensures ∙ star_is bytes (node bytes c.args.i) ∙ ap (λ (n : Node). is_star n.label) (sym own)
