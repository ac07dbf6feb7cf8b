use Rattle.std.proofs.Common.{ℕ, Bool, List, sym, ◌∙◌, ap}
use Rattle.trie_nodes.specs.Tree.{node_at, is_star}
use Rattle.trie_nodes.specs.declared.node.Node.{Node}
use Rattle.trie_nodes.proofs.Picking.{picked, skipped}
use Rattle.trie_nodes.proofs.walk.push_stars.Goals as goal
use Rattle.trie_nodes.proofs.walk.push_stars.Goals.{then-is_star+in_ok-push, else-is_star}

pub loop-child-preserved : goal.loop-child-preserved
loop-child-preserved g c =
    let nodes : List Node = (g.N.Nodes.nodes c.args.nodes.now) in
    let p : ℕ → Bool = λ i. is_star (node_at nodes i).label in
    elim c.if-is_star.branch [
      | then-is_star+in_ok-push w ↦ picked p c.loop-child.list.items c.if-is_star.list.items c.loop-child.child c.children-children.result.end c.loop-child-test.true (sym c.is_star.ensures ∙ w.if-is_star.true) (ap (λ v. v.items) w.list-is ∙ w.in_ok-push.ensures.items) ∙ c.loop-child.invariant
      | else-is_star w ↦ skipped p c.loop-child.list.items c.if-is_star.list.items c.loop-child.child c.children-children.result.end c.loop-child-test.true (sym c.is_star.ensures ∙ w.if-is_star.false) (ap (λ v. v.items) w.list-is) ∙ c.loop-child.invariant
    ]
