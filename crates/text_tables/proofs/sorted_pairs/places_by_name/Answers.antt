use Rattle.std.proofs.Common.{◌≡◌, ℕ, ap, map, ◌∙◌, subst, rules}
use Rattle.std.proofs.lemmas.Cmp.{nat_list_cmp_total}
use Rattle.std.proofs.lemmas.Iterator.{YieldsList-from_map, YieldsList-from_slice, items_from_collect}
use Rattle.std.proofs.lemmas.Iterator.Consumers.{YieldsList-at}
use Rattle.std.proofs.lemmas.List.Sorted.{answers_always, ranks_by}
use Rattle.std.specs.List.Sorted.{IsPermutation}
use Rattle.text_tables.specs.Heads.{pair_at}
use Rattle.text_tables.specs.Sorted.{by_name}
use Rattle.text_bytes.specs.Text.{Text}
use Rattle.text_tables.proofs.Places.{if_there, sorted_places}
use Rattle.text_tables.proofs.sorted_pairs.places_by_name.Goals as goal

pub returns : goal.returns
returns c =
    if_there (λ order. order.items ≡ map (λ (x : Text × ℕ). x.1) c.sort_unstable_by.new.self.items) (λ order. map (pair_at c.args.pairs.now) order.items ≡ by_name c.args.pairs.now) c.collect.result
    (λ order is. ap (map (pair_at c.args.pairs.now)) is
    ∙ sorted_places c.args.pairs.now c.named_places.ensures.once c.sort_unstable_by.new.self.items
    (subst (λ xs. IsPermutation xs c.sort_unstable_by.new.self.items) c.in_ok-places.ensures.places c.sort_unstable_by.ensures.permutation)
    (c.sort_unstable_by.ensures.sorted _ (ranks_by nat_list_cmp_total (λ x. x.0)) (answers_always _ _ _ (λ f a r g called. search rules))))
    (items_from_collect _ c.collect.ensures.ran
    (YieldsList-from_map _ (λ (x : Text × ℕ). x.1) (YieldsList-at c.map.ensures.source (YieldsList-from_slice c.sort_unstable_by.new.self.items (c.iter.ensures.rest ∙ c.deref.ensures.value))) c.map.ensures.closure (λ x r q k. search rules)))
