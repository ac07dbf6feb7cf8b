use Rattle.devdry_words.specs.Refusals.{reasons}
use Rattle.devdry_words.proofs.Reasons.{added_alone, links_alone, none_met, questions_alone}
use Rattle.devdry_words.proofs.laws.no_reason_is_met_by_what_is_taken.Goals as goal

pub returns : goal.returns
returns c = record { none = λ name rows h. none_met (reasons name rows) h; links = links_alone; questions = questions_alone; added = added_alone }
