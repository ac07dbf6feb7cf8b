use Rattle.std.proofs.Common.{◌≡◌, List, [], ◌∷◌, map, refl, ap, ap₂, ◌∙◌}
use Rattle.engine_formats.specs.Diagnostics.{shown}
use Rattle.engine_formats.specs.declared.diagnostic.Diagnostic.{Diagnostic}
use Rattle.engine_reports.specs.Checks.{files_said}
use Rattle.engine_checks.specs.Outcomes.{in_format}
use Rattle.engine_checks.proofs.checks.report_on_reported.Goals as goal

names_shown : (ds : List Diagnostic) → map (λ d. d.name.now) ds ≡ map (λ d. d.name) (map shown ds)
names_shown [] = refl
names_shown (d ∷ ds) = ap (λ ns. d.name.now ∷ ns) (names_shown ds)

pub returns-clause-said : goal.returns-clause-said
returns-clause-said c =
    c.in_format.ensures.said
    ∙ ap (in_format c.args.line.now.format)
    (c.in_ok-report.ensures.said ∙ ap₂ (files_said c.args.line.now.summary c.args.files.now) (names_shown c.args.reported.now) c.in_ok-lines.ensures)
