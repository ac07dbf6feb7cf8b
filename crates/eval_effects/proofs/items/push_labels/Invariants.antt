use Rattle.std.proofs.Common.{◌≡◌, ◌++◌, take}
use Rattle.eval_effects.specs.Items.{label_items}
use Rattle.eval_effects.proofs.items.push_labels.Given as goal

abbrev pub invariant-loop-label : goal.invariant-loop-label
invariant-loop-label l = l.items.items ≡ l.initial.items.items ++ label_items l.profile (take l.label-index l.labels)
