use Rattle.rule_tokens.proofs.Meanings.{one_meaning}
use Rattle.rule_laws.proofs.tokens.value_has_one_meaning.Goals as goal

pub returns : goal.returns
returns c = one_meaning
