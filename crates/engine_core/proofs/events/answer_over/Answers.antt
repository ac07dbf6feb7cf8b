use Rattle.std.proofs.Common.{IfErr, refl, subst}
use Rattle.engine_reports.specs.Reports.{IsRefused}
use Rattle.engine_core.specs.Outcomes.{why_of}
use Rattle.engine_core.proofs.Running.{asked_refused, refused_runs}
use Rattle.engine_core.proofs.events.answer_over.Goals as goal

pub returns-in-Err : goal.returns-in-Err
returns-in-Err g c opened is_opened is_refused =
    let refused = subst (λ t. IfErr t (λ e. IsRefused e opened)) c.in-Err.is is_refused in
    let why = why_of c.args.line.now in
    refused_runs c.args.line.now c.args.found.now c.in-Err.refusal _ _ _ _ (asked_refused c.in-Err.refusal c.args.line.now.format why opened refused) c.deliver_refusal.ensures.delivers c.deliver_refusal.ensures.faults c.deliver_refusal.ensures.memory refl
