use Rattle.rule_laws.proofs.Ranges.{had, written}
use Rattle.rule_laws.proofs.patterns.members_are_ranges_and_bytes.Goals as goal

pub returns-clause-written : goal.returns-clause-written
returns-clause-written c = written

pub returns-clause-had : goal.returns-clause-had
returns-clause-had c = had
