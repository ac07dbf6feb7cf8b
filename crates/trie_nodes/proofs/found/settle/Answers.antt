use Rattle.std.proofs.Common.{[], take, fold, rules, of_calls, ap, sym, subst, ◌∙◌, arith}
use Rattle.std.proofs.lemmas.Fn.{always_returns_same}
use Rattle.std.proofs.lemmas.Cmp.{nat_list_cmp_total}
use Rattle.std.proofs.lemmas.List.{take_all}
use Rattle.std.proofs.lemmas.List.Sorted.{ranks_by}
use Rattle.std.specs.List.Sorted.{IsSortedBy}
use Rattle.trie_nodes.specs.declared.found.Found.{Found}
use Rattle.trie_nodes.specs.Found.{found_entries, found_entry}
use Rattle.trie_nodes.specs.Query.{put}
use Rattle.trie_nodes.specs.Winning.{KeysRise}
use Rattle.trie_nodes.proofs.Settling.{fold_rises, none_rise}
use Rattle.trie_nodes.proofs.Sorted.{before, first_came, same_settled, settle_more}
use Rattle.trie_nodes.proofs.found.settle.Goals as goal

-- what is shown if there is no property
abbrev nobody : Found
nobody = record {
  key = record { ref_ptr = (0, 0); now = [] };
  value = record { ref_ptr = (0, 0); now = [] };
  order = 0;
  file = record { ref_ptr = (0, 0); now = [] };
  line = 0;
}

pub put_last-requires-clause-rise : goal.put_last-requires-clause-rise
put_last-requires-clause-rise c =
    subst KeysRise (sym c.loop-property.invariant) (fold_rises [] (found_entries (take c.loop-property.property-index c.deref-property-items.result.now)) none_rise)

pub put_last-requires-clause-last : goal.put_last-requires-clause-last
put_last-requires-clause-last c =
    first_came c.deref-property-items.result.now c.loop-property.property-index nobody c.loop-property-test.true (found_entries c.loop-property.won.items) c.loop-property.invariant
    (subst (IsSortedBy before) (sym c.deref-property-items.ensures.value)
    (c.in_ok-sort_by.ensures.sorted before (ranks_by nat_list_cmp_total (λ f. (found_entry f).key)) (always_returns_same _ _ _ (λ a r f k. search (rules, of_calls)))))

pub loop-property-preserved : goal.loop-property-preserved
loop-property-preserved c =
    settle_more c.deref-property-items.result.now c.loop-property.property-index nobody c.loop-property-test.true
    (found_entries c.loop-property.won.items) (found_entries c.put_last.new.won.items) c.loop-property.invariant c.in_ok-put_last.ensures

pub returns : goal.returns
returns c =
    c.loop-property.invariant
    ∙ ap (λ l. fold put [] (found_entries l)) (take_all c.loop-property.property-index c.deref-property-items.result.now (omega arith) ∙ c.deref-property-items.ensures.value)
    ∙ same_settled c.args.found.items c.sort_by.new.self.items
    (c.in_ok-sort_by.ensures.stable before (ranks_by nat_list_cmp_total (λ f. (found_entry f).key)) (always_returns_same _ _ _ (λ a r f k. search (rules, of_calls))))
