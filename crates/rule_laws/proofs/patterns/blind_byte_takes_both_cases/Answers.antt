use Rattle.rule_laws.proofs.Cases.{itself_takes}
use Rattle.rule_laws.proofs.patterns.blind_byte_takes_both_cases.Goals as goal

pub returns : goal.returns
returns c = itself_takes
