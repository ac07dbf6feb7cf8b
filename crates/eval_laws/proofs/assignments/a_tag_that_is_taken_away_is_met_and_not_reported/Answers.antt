use Rattle.eval_laws.proofs.Tagged.{no_more_reported, reported, still_met}
use Rattle.eval_laws.proofs.assignments.a_tag_that_is_taken_away_is_met_and_not_reported.Goals as goal

pub returns-clause-met : goal.returns-clause-met
returns-clause-met c = still_met

pub returns-clause-not_reported : goal.returns-clause-not_reported
returns-clause-not_reported c = no_more_reported

pub returns-clause-reported : goal.returns-clause-reported
returns-clause-reported c = λ r o template s t udev text other some tag. reported r template s t udev text o other some tag
