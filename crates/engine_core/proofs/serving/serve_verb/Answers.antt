use Rattle.std.proofs.Common.{ap, refl}
use Rattle.engine_reports.specs.Outcomes.{query_over}
use Rattle.engine_checks.specs.Outcomes.{update_outcome, verify_outcome}
use Rattle.engine_core.specs.Mending.{mend_said}
use Rattle.engine_core.specs.Outcomes.{before_input}
use Rattle.engine_core.proofs.Running.{report_runs}
use Rattle.engine_core.proofs.serving.serve_verb.Goals as goal

pub returns-in-Query-clause-runs : goal.returns-in-Query-clause-runs
returns-in-Query-clause-runs g c =
    report_runs c.args.line.now c.args.found.now _ (query_over c.args.line.now c.args.files.items c.args.opened) c.report_on_query.result _ _ _ (ap (λ v. before_input v c.args.line.now c.args.files.items c.args.opened) c.in-Query.is)
    c.deliver_report.ensures.delivers c.deliver_report.ensures.faults (record { says = c.report_on_query.ensures.said; refused = c.report_on_query.ensures.refused }) refl

pub returns-in-Update-clause-runs : goal.returns-in-Update-clause-runs
returns-in-Update-clause-runs g c =
    report_runs c.args.line.now c.args.found.now _ (update_outcome c.args.line.now c.args.files.items) c.report_on_update.result _ _ _ (ap (λ v. before_input v c.args.line.now c.args.files.items c.args.opened) c.in-Update.is)
    c.deliver_report-in-Update.ensures.delivers c.deliver_report-in-Update.ensures.faults (record { says = c.report_on_update.ensures.said; refused = c.report_on_update.ensures.refused }) refl

pub returns-in-Verify-clause-runs : goal.returns-in-Verify-clause-runs
returns-in-Verify-clause-runs g c =
    report_runs c.args.line.now c.args.found.now _ (verify_outcome c.args.line.now c.args.files.items) c.report_on_verify.result _ _ _ (ap (λ v. before_input v c.args.line.now c.args.files.items c.args.opened) c.in-Verify.is)
    c.deliver_report-in-Verify.ensures.delivers c.deliver_report-in-Verify.ensures.faults (record { says = c.report_on_verify.ensures.said; refused = c.report_on_verify.ensures.refused }) refl

pub returns-in-Mend-clause-runs : goal.returns-in-Mend-clause-runs
returns-in-Mend-clause-runs g c =
    report_runs c.args.line.now c.args.found.now _ (mend_said c.args.line.now c.args.files.items) c.report_on_mending.result _ _ _ (ap (λ v. before_input v c.args.line.now c.args.files.items c.args.opened) c.in-Mend.is)
    c.deliver_report-in-Mend.ensures.delivers c.deliver_report-in-Mend.ensures.faults (record { says = c.report_on_mending.ensures.said; refused = c.report_on_mending.ensures.refused }) refl
