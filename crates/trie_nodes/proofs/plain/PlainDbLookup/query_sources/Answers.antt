use Rattle.std.proofs.Common.{map, ap, ◌∙◌, arith, refl}
use Rattle.std.proofs.lemmas.List.{take_all}
use Rattle.trie_nodes.specs.Found.{found_entries}
use Rattle.trie_nodes.specs.Query.{origin, winners}
use Rattle.trie_nodes.proofs.Stripping.{reported_for_winners}
use Rattle.trie_nodes.proofs.plain.PlainDbLookup.query_sources.Goals as goal

pub returns : goal.returns
returns c =
    c.loop-winner.invariant
    ∙ ap (λ l. map origin (found_entries l)) (take_all c.loop-winner.winner-index c.deref-winner-items.result.now (omega arith) ∙ c.deref-winner-items.ensures.value)
    ∙ reported_for_winners origin (λ e. refl) (found_entries c.in_ok-won.won.items) c.deref.result.now c.args.modalias.now c.in_ok-won.ensures
    ∙ ap (λ es. map origin (winners es c.args.modalias.now)) (c.deref.ensures.value ∙ c.self.view_is)
