use Rattle.rule_laws.proofs.Belonging.{set_has-set_of}
use Rattle.rule_laws.proofs.patterns.set_has_what_passes.Goals as goal

pub returns : goal.returns
returns c = set_has-set_of
