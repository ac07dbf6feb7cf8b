use Rattle.std.proofs.Common.{◌≡◌, ◌<◌, List, All, ◌∙◌, sym, subst, length}
use Rattle.trie_nodes.specs.declared.node.Node.{Node}
use Rattle.trie_nodes.specs.Tree.{active_after}
use Rattle.trie_nodes.proofs.Stepping.{active_within}
use Rattle.trie_nodes.proofs.answers.winners.Goals as goal

pub push_values-requires : goal.push_values-requires
push_values-requires g c =
    let nodes : List Node = g.D.Nodes.nodes c.args.database.now in
    let active : c.deref-i-items.result.now ≡ active_after nodes c.args.modalias.now = c.deref-i-items.ensures.value ∙ c.in_ok-active.ensures.nodes in
    let within : All (λ i. i < length nodes) c.deref-i-items.result.now = subst (All (λ i. i < length nodes)) (sym active) (active_within nodes c.args.modalias.now) in
    within c.loop-i.i-index 0 c.loop-i-test.true
