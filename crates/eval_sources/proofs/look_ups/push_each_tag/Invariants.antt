use Rattle.std.proofs.Common.{◌≡◌, ◌++◌, map, take}
use Rattle.eval_effects.specs.Items.{items}
use Rattle.eval_sources.specs.Touched.{found, of_tags}
use Rattle.eval_sources.proofs.look_ups.push_each_tag.Given as goal

abbrev pub invariant-loop-tag : goal.invariant-loop-tag
invariant-loop-tag l = l.found.items ≡ l.initial.found.items ++ found (items l.scene) (of_tags (map (λ t. t.items) (take l.tag-index l.tags)))
