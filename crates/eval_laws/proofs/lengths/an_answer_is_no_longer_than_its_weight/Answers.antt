use Rattle.eval_laws.proofs.Answers.{block_answer_short, files_answer_short}
use Rattle.eval_laws.proofs.lengths.an_answer_is_no_longer_than_its_weight.Goals as goal

pub returns : goal.returns
returns c = record { files = files_answer_short; others = block_answer_short }
