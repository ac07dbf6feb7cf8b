use Rattle.std.proofs.Common.{◌≡◌, ◌++◌, map}
use Rattle.std.specs.Cow.{cow_slice_items}
use Rattle.eval_courses.specs.Acts.{newly_set, property_report}
use Rattle.eval_courses.proofs.properties.newly_set.Given as goal

abbrev pub invariant-loop-name : goal.invariant-loop-name
invariant-loop-name l =
    l.texts.items ++ map property_report (newly_set l.before (map (λ e. (cow_slice_items e.0, cow_slice_items e.1)) l.name-iterator)) ≡ map property_report (newly_set l.fn.before l.fn.now)
