use Rattle.std.proofs.Common.{◌≡◌, ◌++◌, drop, flat_map}
use Rattle.eval_effects.specs.Items.{items}
use Rattle.eval_sources.specs.Touched.{found, named_by}
use Rattle.eval_sources.proofs.look_ups.push_all_named.Given as goal

abbrev pub invariant-loop-set : goal.invariant-loop-set
invariant-loop-set l =
    l.found.items ++ found (items l.scene) (flat_map (λ a. named_by l.scene.state.event.profile l.scene.state a.change) (drop l.set-index l.sets)) ≡ l.fn.found.items ++ found (items l.fn.scene) (flat_map (λ a. named_by l.fn.scene.state.event.profile l.fn.scene.state a.change) l.fn.sets)
