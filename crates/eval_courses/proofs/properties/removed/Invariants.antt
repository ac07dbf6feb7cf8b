use Rattle.std.proofs.Common.{◌≡◌, ◌++◌, map}
use Rattle.std.specs.Cow.{cow_slice_items}
use Rattle.eval_effects.specs.Shown.{shown}
use Rattle.eval_courses.specs.Acts.{gone_from}
use Rattle.eval_courses.proofs.properties.removed.Given as goal

abbrev pub invariant-loop-name : goal.invariant-loop-name
invariant-loop-name l =
    l.texts.items ++ map (λ property. shown property.0) (gone_from l.now (map (λ e. (cow_slice_items e.0, cow_slice_items e.1)) l.name-iterator)) ≡ map (λ property. shown property.0) (gone_from l.fn.now l.fn.before)
