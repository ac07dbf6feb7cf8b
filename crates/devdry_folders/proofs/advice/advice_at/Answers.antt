use Rattle.std.proofs.Common.{ap, ◌∙◌}
use Rattle.std.proofs.lemmas.Result.{IfOk-weaker}
use Rattle.devdry_folders.specs.Advice.{advice_in}
use Rattle.devdry_folders.proofs.advice.advice_at.Goals as goal

pub returns : goal.returns
returns g c =
    IfOk-weaker c.advice_in.result _ _ (λ advice h. record {
      survey = c.in_ok-survey.survey;
      is_survey = c.in_ok-survey.ensures;
      advice_is = h ∙ ap (λ path. advice_in path c.in_ok-survey.survey) c.as_bytes.ensures.value;
    }) c.advice_in.ensures
