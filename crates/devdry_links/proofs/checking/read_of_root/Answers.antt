use Rattle.std.proofs.Common.{rules}
use Rattle.devdry_links.proofs.checking.read_of_root.Goals as goal

pub returns-clause-read : goal.returns-clause-read
returns-clause-read g c = record {
  survey = c.in_ok-survey.survey;
  is_survey = c.in_ok-survey.ensures;
  files = search rules;
  lines = search rules;
  least = search rules;
}
