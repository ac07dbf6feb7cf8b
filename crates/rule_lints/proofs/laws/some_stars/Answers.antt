use Rattle.std.proofs.Common.{refl}
use Rattle.text_core.specs.Choices.{choice, choice_by}
use Rattle.text_core.specs.Spell.{first_item, bracket}
use Rattle.rule_lints.proofs.laws.some_stars.Goals as goal

pub returns : goal.returns
unfolding choice choice_by first_item bracket
returns c = record {
  star = refl;
  second = refl;
  some = refl;
  none = refl;
}
