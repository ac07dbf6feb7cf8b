use Rattle.std.proofs.Common.{ℕ, ◌==◌, ◌&&◌, Bool, cond, Ok, length, ap, ◌∙◌}
use Rattle.device_core.specs.Runs.{runs}
use Rattle.engine_formats.specs.Masked.{shown_in}
use Rattle.engine_core.specs.Comparing.{both_messages, compare_outcome, differences_by}
use Rattle.engine_core.specs.Outcomes.{telling_of}
use Rattle.engine_sessions.specs.Answers.{answers_of}
use Rattle.engine_sessions.specs.Sessions.{answers_as}
use Rattle.engine_sessions.specs.Turns.{joined}
use Rattle.eval_laws.proofs.Sides.{none_faulty, status_by}
use Rattle.eval_laws.proofs.comparing.what_differs_makes_the_status.Goals as goal

pub returns : goal.returns
returns c old_line new_line old_found new_found old new input =
    let answer = answers_as old_line.profile (differences_by old_line new_line old_found new_found old new) in
    let answers = answers_of answer input in
    status_by (telling_of old_line) (shown_in old_line.format (both_messages old.messages new.messages)) (joined answers.texts) (length answers.texts) answers.fault
    ∙ ap (λ (b : Bool). cond {A = ℕ} (length (compare_outcome old_line new_line old_found new_found (Ok old) (Ok new) input).output == 0 && b) 0 1) (none_faulty answer (runs input))
