use Rattle.std.proofs.Common.{ap, map, length, [], ◌∷◌, ◌++◌, ◌∙◌}
use Rattle.std.specs.Cow.{cow_slice_items}
use Rattle.text_tables.specs.Heads.{named_places}
use Rattle.text_tables.specs.Pairs.{names}
use Rattle.text_tables.proofs.Places.{names_of_keys, none_left, one_more}
use Rattle.text_tables.proofs.sorted_pairs.named_places.Goals as goal

pub loop-name-init : goal.loop-name-init
loop-name-init c =
    ap (λ l. l ++ named_places (length l) (map cow_slice_items c.into_iter-name-iterator.result)) c.in_ok-places.ensures.items
    ∙ ap (λ l. named_places 0 (map cow_slice_items l)) (c.into_iter-name-iterator.ensures.into_iter_gives ∙ c.keys-name-items.ensures.rest)
    ∙ ap (named_places 0) (names_of_keys cow_slice_items cow_slice_items c.as_map.result.now.entries)
    ∙ ap (λ pairs. named_places 0 (names pairs)) c.as_map.ensures

pub loop-name-preserved : goal.loop-name-preserved
loop-name-preserved c =
    one_more c.loop-name.places.items c.push.new.self.items (cow_slice_items c.in-Some.name.now) (map cow_slice_items c.next.new.self) (map cow_slice_items c.loop-name.name-iterator) _ c.loop-name.invariant
    (ap (map cow_slice_items) c.in-Some.ensures.steps)
    (rw (c.in_ok-push.ensures.items, c.new.ensures, c.as_slice.ensures.value, c.len-place.ensures) (ap (λ n. c.loop-name.places.items ++ (cow_slice_items c.in-Some.name.now, n) ∷ []) c.loop-name.places.ok.0))

pub returns-clause-places : goal.returns-clause-places
returns-clause-places c = none_left c.loop-name.places.items (map cow_slice_items c.loop-name.name-iterator) _ c.loop-name.invariant (ap (map cow_slice_items) c.in-None.ensures.steps.0)
