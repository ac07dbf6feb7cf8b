use Rattle.std.proofs.Common.{ap}
use Rattle.rule_types.specs.declared.roles.MatchOperator.TheVariants.{Equal}
use Rattle.eval_laws.proofs.PrintedActs.{answered, failed, holds}
use Rattle.eval_laws.proofs.printed.a_program_that_is_imported_sets_what_it_printed.Goals as goal

pub returns-clause-answered : goal.returns-clause-answered
returns-clause-answered c = λ known rule operator template scene text p h. ap (λ went. went.0) (answered rule operator template scene known text p h)

pub returns-clause-holds : goal.returns-clause-holds
returns-clause-holds c = λ known rule template scene p. (holds rule template scene known p, λ h. ap (λ went. went.1) (answered rule Equal template scene known h.0 p h.1))

pub returns-clause-failed : goal.returns-clause-failed
returns-clause-failed c = λ known rule template scene p. failed rule template scene known p
