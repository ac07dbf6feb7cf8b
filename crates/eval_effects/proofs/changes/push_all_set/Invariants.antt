use Rattle.std.proofs.Common.{◌≡◌, ◌++◌, take, flat_map}
use Rattle.eval_effects.specs.Changes.{set_item}
use Rattle.eval_effects.proofs.changes.push_all_set.Given as goal

abbrev pub invariant-loop-item : goal.invariant-loop-item
invariant-loop-item l = l.reported.items ≡ l.initial.reported.items ++ flat_map (set_item l.was) (take l.item-index l.now)
