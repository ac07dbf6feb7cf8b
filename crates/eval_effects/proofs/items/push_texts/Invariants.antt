use Rattle.std.proofs.Common.{◌≡◌, ◌++◌, take, map}
use Rattle.eval_effects.specs.Items.{text_items}
use Rattle.eval_effects.proofs.items.push_texts.Given as goal

abbrev pub invariant-loop-text : goal.invariant-loop-text
invariant-loop-text l = l.items.items ≡ l.initial.items.items ++ text_items l.word (map (λ t. t.items) (take l.text-index l.texts))
