use Rattle.std.proofs.Common.{ap₂, sym, ◌∙◌}
use Rattle.std.proofs.lemmas.Result.{IfOk-weaker}
use Rattle.engine_formats.specs.Diagnostics.{DiagnosticValue}
use Rattle.engine_checks.specs.Files.{rule_diagnostic}
use Rattle.engine_checks.specs.Reported.{merged}
use Rattle.engine_checks.proofs.ByLines.{made_by_line}
use Rattle.engine_checks.proofs.lines_found.messages_found.Goals as goal

pub returns : goal.returns
returns c =
    IfOk-weaker c.merged.result _ _
    (λ all h.
    h
    ∙ ap₂ merged c.in_ok-found.ensures c.in_ok-rule_diagnostics.ensures
    ∙ sym (made_by_line (rule_diagnostic c.args.file.now) (λ (d : DiagnosticValue). d.begins) c.args.findings.items c.args.remarks.items))
    c.merged.ensures
