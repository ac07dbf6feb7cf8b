use Rattle.eval_laws.proofs.OneBlock.{compared_answers}
use Rattle.eval_laws.proofs.comparing.what_events_answers_is_compared.Goals as goal

pub returns : goal.returns
returns c old_line new_line old_found new_found old new input block event one gives same old_more old_questions old_unused new_more new_questions new_unused =
    compared_answers old_line new_line old_found new_found old new old_more new_more same old_questions old_unused new_questions new_unused input block event one gives
