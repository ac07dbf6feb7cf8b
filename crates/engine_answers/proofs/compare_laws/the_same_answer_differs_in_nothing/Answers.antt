use Rattle.engine_answers.proofs.Reporting.{same_answer}
use Rattle.engine_answers.proofs.compare_laws.the_same_answer_differs_in_nothing.Goals as goal

pub returns : goal.returns
returns c = same_answer
