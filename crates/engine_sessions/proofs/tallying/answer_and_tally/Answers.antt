use Rattle.engine_sessions.specs.Sessions.{answer_of, asked_by}
use Rattle.engine_sessions.specs.Tallies.{events_of}
use Rattle.engine_sessions.proofs.Saying.{said_serve}
use Rattle.engine_sessions.proofs.tallying.answer_and_tally.Goals as goal

pub returns-clause-serves : goal.returns-clause-serves
returns-clause-serves g c =
    said_serve c.args.telling c.args.messages.now (answer_of g.A.Answering.answers (asked_by c.args.profile c.args.answering.now)) (λ text. g.T.Tally.says c.args.tally (events_of c.args.profile text)) _ _ _ c.tally_in_steps.ensures
