use Rattle.std.proofs.Common.{◌≡◌, IfOk, subst, sym, ◌∷◌, [], ◌++◌, ◌∙◌, ap, arith, map, fold}
use Rattle.std.proofs.lemmas.List.{map-append, take_all}
use Rattle.trie_nodes.specs.Found.{found_entries, found_entry, stripped}
use Rattle.trie_nodes.specs.Query.{fitting, put}
use Rattle.trie_nodes.proofs.Placing.{fits_more, passes_more}
use Rattle.trie_nodes.proofs.winners.winners.Goals as goal
use Rattle.trie_nodes.proofs.winners.winners.Goals.{then-fits+in_ok-push, else-fits}

pub loop-entry-preserved : goal.loop-entry-preserved
loop-entry-preserved c = elim c.if-fits.branch [
  | then-fits+in_ok-push w ↦
      ap (λ v. found_entries v.items) w.found-is
      ∙ ap found_entries w.in_ok-push.ensures.items
      ∙ map-append found_entry c.loop-entry.found.items (w.of.result ∷ [])
      ∙ ap (λ e. found_entries c.loop-entry.found.items ++ e ∷ []) w.of.ensures
      ∙ ap (λ l. l ++ stripped c.entry-item.result ∷ []) c.loop-entry.invariant
      ∙ fits_more c.args.entries.now c.args.modalias.now c.loop-entry.entry-index c.entry-item.result c.loop-entry-test.true c.entry-item.is (sym c.fits.ensures ∙ w.if-fits.true)
  | else-fits w ↦
      ap (λ v. found_entries v.items) w.found-is
      ∙ c.loop-entry.invariant
      ∙ passes_more c.args.entries.now c.args.modalias.now c.loop-entry.entry-index c.entry-item.result c.loop-entry-test.true c.entry-item.is (sym c.fits.ensures ∙ w.if-fits.false)
]

pub returns : goal.returns
returns c =
    subst (λ es. IfOk c.settle.result (λ won. found_entries won.items ≡ fold put [] es))
    (c.loop-entry.invariant ∙ ap (λ es. map stripped (fitting es c.args.modalias.now)) (take_all c.loop-entry.entry-index c.args.entries.now (omega arith))) c.settle.ensures
