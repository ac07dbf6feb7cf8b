use Rattle.engine_answers.proofs.ReadBack.{plain_read, sourced_read}
use Rattle.engine_answers.proofs.laws.answers_are_read_back.Goals as goal

pub returns : goal.returns
returns c = record { plain = plain_read; sourced = sourced_read }
