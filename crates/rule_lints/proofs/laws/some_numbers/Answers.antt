use Rattle.std.proofs.Common.{refl}
use Rattle.text_core.specs.Choices.{choice, choice_by}
use Rattle.text_core.specs.Spell.{first_item, bracket}
use Rattle.rule_lints.proofs.laws.some_numbers.Goals as goal

pub returns : goal.returns
unfolding choice choice_by first_item bracket
returns c = record {
  small = refl;
  capital = refl;
  set = refl;
  prefixed = refl;
  prefix = refl;
  name = refl;
}
