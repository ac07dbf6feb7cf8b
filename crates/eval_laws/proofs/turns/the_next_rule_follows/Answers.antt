use Rattle.eval_laws.proofs.Following.{plain_follows, stopped_follows}
use Rattle.eval_laws.proofs.turns.the_next_rule_follows.Goals as goal

pub returns-clause-stopped : goal.returns-clause-stopped
returns-clause-stopped c = stopped_follows

pub returns-clause-plain : goal.returns-clause-plain
returns-clause-plain c = plain_follows
