use Rattle.engine_sessions.specs.Sessions.{answer_of, asked_by}
use Rattle.engine_sessions.proofs.Serving.{answers_serve}
use Rattle.engine_sessions.proofs.following.answer_after_messages.Goals as goal

pub returns-clause-serves : goal.returns-clause-serves
returns-clause-serves g c =
    answers_serve c.args.telling c.args.messages.now (answer_of g.A.Answering.answers (asked_by c.args.profile c.args.answering.now)) _ _ _ c.answer_in_steps.ensures
