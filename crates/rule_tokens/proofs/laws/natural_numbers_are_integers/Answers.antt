use Rattle.rule_tokens.proofs.Digits.{natural_is}
use Rattle.rule_tokens.proofs.laws.natural_numbers_are_integers.Goals as goal

pub returns : goal.returns
returns c = natural_is
