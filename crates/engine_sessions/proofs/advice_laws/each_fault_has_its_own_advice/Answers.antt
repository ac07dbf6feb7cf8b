use Rattle.engine_sessions.proofs.OwnAdvice.{none_empty, own_advice, own_wrong}
use Rattle.engine_sessions.proofs.advice_laws.each_fault_has_its_own_advice.Goals as goal

pub returns-clause-wrong : goal.returns-clause-wrong
returns-clause-wrong c = own_wrong

pub returns-clause-advice : goal.returns-clause-advice
returns-clause-advice c = own_advice

pub returns-clause-some : goal.returns-clause-some
returns-clause-some c = none_empty
