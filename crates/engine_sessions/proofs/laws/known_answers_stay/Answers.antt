use Rattle.engine_sessions.proofs.LawLemmas.{stays_faulty, stays_well}
use Rattle.engine_sessions.proofs.laws.known_answers_stay.Goals as goal

pub returns : goal.returns
returns c = record { faulty = stays_faulty; well = stays_well }
