use Rattle.std.proofs.Common.{refl}
use Rattle.text_core.specs.Choices.{choice, choice_by}
use Rattle.text_core.specs.Spell.{first_item, bracket}
use Rattle.rule_lints.proofs.value_laws.some_values.Goals as goal

pub returns : goal.returns
unfolding choice choice_by first_item bracket
returns c = record {
  action = refl;
  actions = refl;
  unknown_action = refl;
  some_action = refl;
  kernel = refl;
  node = refl;
  path = refl;
  sys_path = refl;
  subsystem = refl;
  capitals = refl;
  digits = refl;
  prefixed = refl;
  three = refl;
  five = refl;
  letters = refl;
  one = refl;
  two = refl;
  removable = refl;
  truth = refl;
  architecture = refl;
  other_architecture = refl;
}
