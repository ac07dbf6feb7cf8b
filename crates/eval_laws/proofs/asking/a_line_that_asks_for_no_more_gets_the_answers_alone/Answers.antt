use Rattle.engine_reports.specs.Openings.{opening}
use Rattle.eval_laws.proofs.Unasked.{answered_alone, asked_as_it_is}
use Rattle.eval_laws.proofs.asking.a_line_that_asks_for_no_more_gets_the_answers_alone.Goals as goal

pub returns : goal.returns
returns c = record { answers = answered_alone; opening = λ line files index. asked_as_it_is line (opening line files index) }
