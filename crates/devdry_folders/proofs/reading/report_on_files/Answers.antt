use Rattle.std.proofs.Common.{◌≡◌, ◌∙◌, [], ◌∷◌, ap, false, rules, subst, sym, tests}
use Rattle.std.specs.List.{list_any}
use Rattle.std.specs.Prelude.{MatchBool, None}
use Rattle.std.proofs.lemmas.Iterator.{YieldsList-from_slice}
use Rattle.std.proofs.lemmas.Iterator.Search.{any_from_yields_List}
use Rattle.std.proofs.lemmas.Result.{IfOk-weaker}
use Rattle.engine_sessions.specs.Kinds.{kind_named, same_kind}
use Rattle.devdry_folders.specs.Missing.{IsLineOnRoot}
use Rattle.devdry_folders.specs.Surveys.{IsReportOnFiles, IsReported, IsSurveyFor}
use Rattle.devdry_folders.specs.Unread.{least_status}
use Rattle.devdry_folders.specs.declared.reading.Report.{Report}
use Rattle.devdry_folders.specs.declared.sights.Survey.{Survey}
use Rattle.devdry_folders.proofs.reading.report_on_files.Goals as goal

pub returns-then-not-any-clause-report : goal.returns-then-not-any-clause-report
returns-then-not-any-clause-report g c =
    let may = g.D.Disk.may_answer c.args.disk.now in
    let line = c.args.line.now in
    let files = c.args.files.now in
    let survey = c.in_ok-survey.survey in
    let kind = c.kind_named-kind.result in
    let any : c.any.result ≡ list_any (λ file. same_kind kind file.kind) files =
    any_from_yields_List (λ file. same_kind kind file.kind) _ _ _ c.any.ensures.ran (YieldsList-from_slice files c.iter.ensures.rest) (λ x b q k. search (rules, tests)) in
    let none : list_any (λ file. same_kind (kind_named line.verb) file.kind) files ≡ false =
    ap (λ kind. list_any (λ file. same_kind kind file.kind) files) (sym c.kind_named-kind.ensures) ∙ sym any ∙ c.if-not-any.true in
    let reported : (report : Report) → IsReported may line (kind ∷ []) survey report → IsReportOnFiles may line files report = λ report h.
    subst (λ b. MatchBool b (IsLineOnRoot may line report.lines.items × (report.least ≡ least_status [] report.lines.items))
    ((survey : Survey) × IsSurveyFor may line None survey × IsReported may line (kind_named line.verb ∷ []) survey report)) (sym none)
    (survey, c.in_ok-survey.ensures, subst (λ kind. IsReported may line (kind ∷ []) survey report) c.kind_named-kind.ensures h) in
    IfOk-weaker c.reported_for.result _ _ reported c.reported_for.ensures.reported
