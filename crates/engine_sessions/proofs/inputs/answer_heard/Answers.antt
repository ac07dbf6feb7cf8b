use Rattle.engine_sessions.proofs.Turns.{unstarted}
use Rattle.engine_sessions.proofs.inputs.answer_heard.Goals as goal

pub returns-in-Err : goal.returns-in-Err
returns-in-Err g c = record { finds = record { answers = unstarted _ _ _; none_is = tt; finds_is = tt }; told = tt }
