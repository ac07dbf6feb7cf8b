use Rattle.std.proofs.Common.{◌≡◌, ℕ, ◌<◌, List, length, arith, sym, ◌∙◌, ap}
use Rattle.trie_nodes.specs.declared.node.Node.{Node}
use Rattle.trie_nodes.specs.Tree.{node_at}
use Rattle.text_core.specs.declared.item.Item.{Item}
use Rattle.text_core.specs.Items.{takes}
use Rattle.trie_build.specs.Contents.{Contents, contents, label_of}
use Rattle.trie_build.specs.Header.{header_of}
use Rattle.trie_build.specs.Records.{node}
use Rattle.trie_build.specs.declared.index_fault.IndexFault.TheVariants.{Label as LabelCheck}
use Rattle.trie_build.specs.declared.records.NodeRecord.{NodeRecord}
use Rattle.trie_build.proofs.LabelLemmas.{label_byte, label_many, label_among, label_one}
use Rattle.trie_build.proofs.NodeLemmas.{length_nodes, node_is}
use Rattle.trie_build.proofs.tree.IndexNodes.takes.Goals as goal

pub node-node-requires : goal.node-node-requires
node-node-requires c = omega (arith, length_nodes c.self.inside.records c.args.self.now c.self.view_is)

-- the label of the node that was read, as the tree has it
read_label : (bytes : List ℕ) (v : Contents) (i : ℕ) (n : NodeRecord) → contents bytes ≡ v → i < length v.nodes → n ≡ node bytes i → label_of bytes n ≡ (node_at v.nodes i).label
read_label bytes v i n says h e =
    let inside : i < (header_of bytes).nodes = omega (arith, length_nodes bytes v says) in
    ap (label_of bytes) e ∙ ap (λ (m : Node). m.label) (sym (node_is bytes v says i inside))

pub set_has-requires : goal.set_has-requires
set_has-requires c =
    let bytes : List ℕ = c.self.inside.records in
    let inside : c.args.i < (header_of bytes).nodes = omega (arith, length_nodes bytes c.args.self.now c.self.view_is) in
    let kind : (node bytes c.args.i).kind ≡ 4 = rw c.node-node.ensures at c.if-node-eq-AMONG.true in
    rw c.node-node.ensures ((c.self.invariant LabelCheck c.args.i inside).a_set kind)

pub returns-then-node-eq-BYTE : goal.returns-then-node-eq-BYTE
returns-then-node-eq-BYTE c =
    let bytes : List ℕ = c.self.inside.records in
    ap (λ (x : Item). takes x c.args.byte) (sym (label_byte bytes c.node-node.result c.if-node-eq-BYTE.true) ∙ read_label bytes c.args.self.now c.args.i c.node-node.result c.self.view_is c.requires c.node-node.ensures)

pub returns-then-node-eq-MANY : goal.returns-then-node-eq-MANY
returns-then-node-eq-MANY c =
    let bytes : List ℕ = c.self.inside.records in
    ap (λ (x : Item). takes x c.args.byte) (sym (label_many bytes c.node-node.result c.if-node-eq-MANY.true) ∙ read_label bytes c.args.self.now c.args.i c.node-node.result c.self.view_is c.requires c.node-node.ensures)

pub returns-else-node-eq-AMONG : goal.returns-else-node-eq-AMONG
returns-else-node-eq-AMONG c =
    let bytes : List ℕ = c.self.inside.records in
    ap (λ (x : Item). takes x c.args.byte) (sym (label_one bytes c.node-node.result c.if-node-eq-BYTE.false c.if-node-eq-MANY.false c.if-node-eq-AMONG.false) ∙ read_label bytes c.args.self.now c.args.i c.node-node.result c.self.view_is c.requires c.node-node.ensures)

pub returns-then-node-eq-AMONG : goal.returns-then-node-eq-AMONG
returns-then-node-eq-AMONG c =
    let bytes : List ℕ = c.self.inside.records in
    c.set_has.ensures
    ∙ ap (λ (x : Item). takes x c.args.byte) (sym (label_among bytes c.node-node.result c.if-node-eq-AMONG.true) ∙ read_label bytes c.args.self.now c.args.i c.node-node.result c.self.view_is c.requires c.node-node.ensures)
