use Rattle.eval_laws.proofs.Reading.{block_fine}
use Rattle.eval_laws.proofs.questions.filled_in_questions_are_answers.Goals as goal

pub returns-clause-others : goal.returns-clause-others
returns-clause-others c block event h = block_fine block event h
