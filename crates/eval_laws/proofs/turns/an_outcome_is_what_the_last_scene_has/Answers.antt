use Rattle.std.proofs.Common.{refl}
use Rattle.eval_rules.specs.Outcomes.{outcome_of}
use Rattle.eval_laws.proofs.turns.an_outcome_is_what_the_last_scene_has.Goals as goal

pub returns : goal.returns
unfolding outcome_of
returns c = record {
  name = λ s. refl;
  owner = λ s. refl;
  group = λ s. refl;
  mode = λ s. refl;
  options = (λ s. (refl, refl, refl));
  labels = λ s. refl;
  links = λ s. refl;
  tags = λ s. refl;
  properties = λ s. refl;
  written = (λ s. (refl, refl));
  notes = λ s. refl;
}
