use Rattle.rule_laws.proofs.Nuls.{no_nul}
use Rattle.rule_laws.proofs.tokens.value_has_no_nul.Goals as goal

pub returns : goal.returns
returns c = no_nul
