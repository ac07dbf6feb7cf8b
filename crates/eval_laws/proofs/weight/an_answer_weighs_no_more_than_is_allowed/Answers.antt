use Rattle.eval_laws.proofs.Weighing.{block_answer}
use Rattle.eval_laws.proofs.weight.an_answer_weighs_no_more_than_is_allowed.Goals as goal

pub returns : goal.returns
returns c = block_answer
