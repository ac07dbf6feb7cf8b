use Rattle.std.proofs.Common.{refl}
use Rattle.text_core.specs.Choices.{choice, choice_by}
use Rattle.text_core.specs.Spell.{first_item, bracket}
use Rattle.rule_lints.proofs.laws.some_aliases.Goals as goal

pub returns : goal.returns
unfolding choice choice_by first_item bracket
returns c = record {
  capital = refl;
  vendor = refl;
  product = refl;
  later = refl;
  set = refl;
  pci = refl;
  second = refl;
  other = refl;
}
