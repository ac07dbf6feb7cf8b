use Rattle.std.proofs.Common.{◌≡◌, ◌++◌, length, map}
use Rattle.std.specs.Cow.{cow_slice_items}
use Rattle.text_tables.specs.Heads.{named_places}
use Rattle.text_tables.specs.Pairs.{names}
use Rattle.text_tables.proofs.sorted_pairs.named_places.Given as goal

abbrev pub invariant-loop-name : goal.invariant-loop-name
invariant-loop-name l = l.places.items ++ named_places (length l.places.items) (map cow_slice_items l.name-iterator) ≡ named_places 0 (names l.fn.pairs)
