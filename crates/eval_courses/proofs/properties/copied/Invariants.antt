use Rattle.std.proofs.Common.{◌≡◌, [], map}
use Rattle.std.specs.Cow.{cow_slice_items}
use Rattle.text_tables.specs.Pairs.{with_values}
use Rattle.eval_courses.proofs.properties.copied.Given as goal

abbrev pub invariant-loop-name : goal.invariant-loop-name
invariant-loop-name l = with_values l.copy (map (λ e. (cow_slice_items e.0, cow_slice_items e.1)) l.name-iterator) ≡ with_values [] l.fn.properties
