use Rattle.std.proofs.Common.{◌≡◌, map}
use Rattle.std.specs.Cow.{cow_slice_items}
use Rattle.text_tables.specs.NameFlags.{none_set, with_names}
use Rattle.text_tables.specs.Pairs.{names}
use Rattle.text_tables.proofs.cow_pairs.flags_of.Given as goal

abbrev pub invariant-loop-name : goal.invariant-loop-name
invariant-loop-name l = with_names l.flags (map cow_slice_items l.name-iterator) ≡ with_names none_set (names (map (λ e. (cow_slice_items e.0, cow_slice_items e.1)) l.fn.held.entries))
