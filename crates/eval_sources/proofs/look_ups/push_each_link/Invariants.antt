use Rattle.std.proofs.Common.{◌≡◌, ◌++◌, map, take}
use Rattle.eval_effects.specs.Items.{items}
use Rattle.eval_sources.specs.Touched.{found, of_links}
use Rattle.eval_sources.proofs.look_ups.push_each_link.Given as goal

abbrev pub invariant-loop-link : goal.invariant-loop-link
invariant-loop-link l = l.found.items ≡ l.initial.found.items ++ found (items l.scene) (of_links (map (λ t. t.items) (take l.link-index l.links)))
