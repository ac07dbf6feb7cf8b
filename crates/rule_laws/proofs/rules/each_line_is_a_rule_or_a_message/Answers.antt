use Rattle.rule_laws.proofs.Outcomes.{abandoned_whole, read_by_line}
use Rattle.rule_laws.proofs.rules.each_line_is_a_rule_or_a_message.Goals as goal

pub returns-clause-kept : goal.returns-clause-kept
returns-clause-kept c = read_by_line

pub returns-clause-lost : goal.returns-clause-lost
returns-clause-lost c = abandoned_whole
