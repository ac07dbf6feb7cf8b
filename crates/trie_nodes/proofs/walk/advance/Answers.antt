use Rattle.std.proofs.Common.{◌<◌, All, length, take, sym, subst, ◌∙◌}
use Rattle.trie_nodes.proofs.Stepping.{active_within}
use Rattle.trie_nodes.proofs.walk.advance.Goals as goal

pub all_takers-requires-clause-within : goal.all_takers-requires-clause-within
all_takers-requires-clause-within g c =
    let nodes = g.N.Nodes.nodes c.args.nodes.now in
    subst (All (λ i. i < length nodes)) (sym (c.deref.ensures.value ∙ c.requires.active)) (active_within nodes (take c.args.at c.args.modalias.now))

pub all_stars-requires : goal.all_stars-requires
all_stars-requires g c =
    let nodes = g.N.Nodes.nodes c.args.nodes.now in
    subst (All (λ i. i < length nodes)) (sym (c.deref-2.ensures.value ∙ c.requires.active)) (active_within nodes (take c.args.at c.args.modalias.now))
