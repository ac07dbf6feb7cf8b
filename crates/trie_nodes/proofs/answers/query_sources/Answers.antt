use Rattle.std.proofs.Common.{List, map, ap, sym, ◌∙◌, arith, refl}
use Rattle.std.proofs.lemmas.List.{take_all}
use Rattle.trie_nodes.specs.Query.{origin, winners}
use Rattle.trie_nodes.proofs.Stripping.{same_stripped}
use Rattle.trie_nodes.specs.declared.node.Node.{Node}
use Rattle.trie_nodes.specs.Found.{found_entries}
use Rattle.trie_nodes.specs.Values.{Value, listed}
use Rattle.trie_nodes.proofs.Listing.{winners_by_nodes}
use Rattle.trie_nodes.proofs.answers.query_sources.Goals as goal

pub returns : goal.returns
returns g c =
    let nodes : List Node = g.D.Nodes.nodes c.args.database.now in
    let values : List Value = g.D.Database.values c.args.database.now in
    c.loop-winner.invariant
    ∙ ap (λ l. map origin (found_entries l)) (take_all c.loop-winner.winner-index c.deref-winner-items.result.now (omega arith) ∙ c.deref-winner-items.ensures.value)
    ∙ ap (map origin) (c.in_ok-won.ensures ∙ sym (winners_by_nodes nodes values c.args.modalias.now))
    ∙ same_stripped origin (λ e. refl) (winners (listed nodes values) c.args.modalias.now)
