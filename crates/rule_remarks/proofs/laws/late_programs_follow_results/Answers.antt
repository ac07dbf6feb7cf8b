use Rattle.rule_remarks.proofs.Late.{late_reported}
use Rattle.rule_remarks.proofs.laws.late_programs_follow_results.Goals as goal

pub returns-clause-reported : goal.returns-clause-reported
returns-clause-reported c = late_reported
