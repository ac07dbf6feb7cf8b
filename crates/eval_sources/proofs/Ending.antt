-- What is selected in the end does not count.
use Rattle.std.proofs.Common.{◌≡◌, refl, ap, sym, ◌∙◌}
use Rattle.eval_state.specs.declared.scene.Scene.{Scene}
use Rattle.eval_rules.specs.Inner.{unselected}
use Rattle.eval_rules.specs.Outcomes.{outcome_of}

free : (s : Scene) → outcome_of (unselected s) ≡ outcome_of s
unfolding outcome_of
free s = refl

-- two scenes that are the same except for the selected device have the same outcome
pub one_outcome : (s t : Scene) → unselected s ≡ unselected t → outcome_of s ≡ outcome_of t
one_outcome s t e = sym (free s) ∙ ap outcome_of e ∙ free t
