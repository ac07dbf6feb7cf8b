-- The outcome of answers to an input, after messages.
use Rattle.std.specs.Prelude.{ℕ, Bool, ◌==◌, ◌&&◌, if◌then◌else◌, ◌++◌, Option, Some, None, codes, length}
use Rattle.text_bytes.specs.Text.{Text}
use Rattle.device_core.specs.Values.{EventValue}
use Rattle.device_core.specs.declared.faults.BlockFault.{BlockFault}
use Rattle.engine_sessions.specs.Delivery.{RunOutcome}
use Rattle.engine_sessions.specs.Answers.{Answers, answers_of, number_after}
use Rattle.engine_sessions.specs.Turns.{joined}
use Rattle.engine_sessions.specs.BlockFaults.{block_said}
use Rattle.engine_sessions.specs.declared.following.Telling.{Telling}

-- the line on an input without a block
abbrev pub no_block_line : Text
no_block_line = codes "devdry: no event block in the input\n"

-- whether it is told that an input has no block, by how many blocks were answered
abbrev pub tells_none : Telling → ℕ → Bool
tells_none telling count = telling.no_block && count == 0

-- answers after messages: the status is 0, and if there are none, that may be told after the messages; or the status is 1 if the block
-- after so many answers is faulty, which is then reported after the messages, for people or not
abbrev pub answered_until : Telling → Text → Text → ℕ → Option BlockFault → RunOutcome
answered_until telling messages output count None =
    record { output = output; messages = if tells_none telling count then messages ++ no_block_line else messages; status = 0 }
answered_until telling messages output count (Some fault) =
    record { output = output; messages = messages ++ block_said telling.for_people (number_after count) fault; status = 1 }

-- the outcome of these answers after messages
abbrev pub answered : Telling → Text → Answers → RunOutcome
answered telling messages answers = answered_until telling messages (joined answers.texts) (length answers.texts) answers.fault

-- the outcome of the answers to an input after messages
abbrev pub input_outcome : Telling → Text → (EventValue → Text) → Text → RunOutcome
input_outcome telling messages answer input = answered telling messages (answers_of answer input)
