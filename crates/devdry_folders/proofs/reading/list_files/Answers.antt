use Rattle.std.proofs.Common.{subst}
use Rattle.devdry_folders.specs.Surveys.{IsReported}
use Rattle.devdry_folders.proofs.reading.list_files.Goals as goal

pub returns-clause-listed : goal.returns-clause-listed
returns-clause-listed g c = record {
  survey = c.in_ok-survey.survey;
  is_survey = c.in_ok-survey.ensures;
  lines = c.in_ok-status_lines.ensures;
  reported = subst (λ kinds. IsReported (g.D.Disk.may_answer c.args.disk.now) c.args.line.now kinds c.in_ok-survey.survey c.in_ok-report.report) c.kinds_read.ensures c.in_ok-report.ensures.reported;
}
