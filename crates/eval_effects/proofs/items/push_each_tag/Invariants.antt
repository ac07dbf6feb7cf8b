use Rattle.std.proofs.Common.{◌≡◌, ◌++◌, take, map, flat_map}
use Rattle.eval_effects.specs.Inner.{tag_item}
use Rattle.eval_effects.proofs.items.push_each_tag.Given as goal

abbrev pub invariant-loop-tag : goal.invariant-loop-tag
invariant-loop-tag l = l.items.items ≡ l.initial.items.items ++ flat_map (tag_item l.gone) (map (λ t. t.items) (take l.tag-index l.tags))
