use Rattle.std.proofs.Common.{ap}
use Rattle.eval_laws.proofs.AskingLemmas.{answered, failed, holds}
use Rattle.eval_laws.proofs.programs.a_program_that_fails_leaves_no_result.Goals as goal

pub returns-clause-holds : goal.returns-clause-holds
returns-clause-holds c = λ known rule template scene. (holds rule template scene known, λ h. ap (λ went. went.1) (answered rule template scene known h.0 h.1))

pub returns-clause-answered : goal.returns-clause-answered
returns-clause-answered c = λ known rule template scene. answered rule template scene known

pub returns-clause-failed : goal.returns-clause-failed
returns-clause-failed c = λ known rule template scene. failed rule template scene known
