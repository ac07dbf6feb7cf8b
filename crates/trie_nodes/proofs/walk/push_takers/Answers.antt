use Rattle.std.proofs.Common.{ℕ, Bool, List, sym, ◌∙◌, ap}
use Rattle.text_core.specs.Items.{takes}
use Rattle.trie_nodes.specs.Tree.{node_at}
use Rattle.trie_nodes.specs.declared.node.Node.{Node}
use Rattle.trie_nodes.proofs.Picking.{picked, skipped}
use Rattle.trie_nodes.proofs.walk.push_takers.Goals as goal
use Rattle.trie_nodes.proofs.walk.push_takers.Goals.{then-takes+in_ok-push, else-takes}

pub loop-child-preserved : goal.loop-child-preserved
loop-child-preserved g c =
    let nodes : List Node = (g.N.Nodes.nodes c.args.nodes.now) in
    let p : ℕ → Bool = λ i. takes (node_at nodes i).label c.args.byte in
    elim c.if-takes.branch [
      | then-takes+in_ok-push w ↦ picked p c.loop-child.list.items c.if-takes.list.items c.loop-child.child c.children-children.result.end c.loop-child-test.true (sym c.takes.ensures ∙ w.if-takes.true) (ap (λ v. v.items) w.list-is ∙ w.in_ok-push.ensures.items) ∙ c.loop-child.invariant
      | else-takes w ↦ skipped p c.loop-child.list.items c.if-takes.list.items c.loop-child.child c.children-children.result.end c.loop-child-test.true (sym c.takes.ensures ∙ w.if-takes.false) (ap (λ v. v.items) w.list-is) ∙ c.loop-child.invariant
    ]
