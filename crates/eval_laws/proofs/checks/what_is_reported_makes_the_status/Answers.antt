use Rattle.eval_laws.proofs.Statuses.{count_stays, report_alone, status_is, status_stays}
use Rattle.eval_laws.proofs.checks.what_is_reported_makes_the_status.Goals as goal

pub returns : goal.returns
returns c = record { status = status_is; format = status_stays; count = count_stays; report = report_alone }
