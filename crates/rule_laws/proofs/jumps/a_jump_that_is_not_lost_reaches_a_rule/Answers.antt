use Rattle.rule_laws.proofs.Labelled.{reaches}
use Rattle.rule_laws.proofs.jumps.a_jump_that_is_not_lost_reaches_a_rule.Goals as goal

pub returns : goal.returns
returns c = reaches
