use Rattle.rule_tokens.proofs.Examples.{unknown_dollar, unknown_percent}
use Rattle.rule_tokens.proofs.laws.an_unknown_sign_is_a_byte.Goals as goal

pub returns-clause-dollar : goal.returns-clause-dollar
returns-clause-dollar c = unknown_dollar

pub returns-clause-percent : goal.returns-clause-percent
returns-clause-percent c = unknown_percent
