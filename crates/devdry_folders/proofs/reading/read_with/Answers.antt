use Rattle.std.proofs.Common.{[], ◌∷◌, subst}
use Rattle.devdry_folders.specs.Surveys.{IsReported}
use Rattle.devdry_folders.proofs.reading.read_with.Goals as goal

pub returns-clause-some : goal.returns-clause-some
returns-clause-some g c =
    let may = g.D.Disk.may_answer c.args.disk.now in
    let survey = c.in_ok-survey.survey in
    record {
      survey = survey;
      is_survey = c.in_ok-survey.ensures;
      files = c.in_ok-files_of.ensures;
      index = c.index_bytes.ensures;
      reported = subst (λ kind. IsReported may c.args.line.now (kind ∷ []) survey c.in_ok-report.report) c.kind_named.ensures c.in_ok-report.ensures.reported;
    }
