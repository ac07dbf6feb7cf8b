use Rattle.std.proofs.Common.{length}
use Rattle.engine_formats.specs.Masked.{shown_in}
use Rattle.engine_core.specs.Comparing.{both_messages, differences_by}
use Rattle.engine_core.specs.Outcomes.{telling_of}
use Rattle.engine_sessions.specs.Answers.{answers_of}
use Rattle.engine_sessions.specs.Sessions.{answers_as}
use Rattle.engine_sessions.specs.Turns.{joined}
use Rattle.eval_laws.proofs.Sides.{output_is}
use Rattle.eval_laws.proofs.comparing.the_old_answer_is_compared_with_the_new_one.Goals as goal

pub returns : goal.returns
returns c old_line new_line old_found new_found old new input =
    let answers = answers_of (answers_as old_line.profile (differences_by old_line new_line old_found new_found old new)) input in
    output_is (telling_of old_line) (shown_in old_line.format (both_messages old.messages new.messages)) (joined answers.texts) (length answers.texts) answers.fault
