use Rattle.std.proofs.Common.{◌≡◌, ◌++◌, map}
use Rattle.std.specs.Cow.{cow_slice_items}
use Rattle.eval_effects.specs.Items.{pair_items}
use Rattle.eval_effects.proofs.items.push_pairs.Given as goal

abbrev pub invariant-loop-name : goal.invariant-loop-name
invariant-loop-name l = l.items.items ++ pair_items l.word (map (λ e. (cow_slice_items e.0, cow_slice_items e.1)) l.name-iterator) ≡ l.initial.items.items ++ pair_items l.word l.fn.pairs
