-- The answer of `--questions`: what rules ask of an event, as lines of a block.
use Rattle.std.specs.Prelude.{List, [], ◌∷◌, ◌++◌, codes, flat_map}
use Rattle.text_bytes.specs.Names.{newline}
use Rattle.text_bytes.specs.Text.{Text}
use Rattle.builtin_devices.specs.Knowledge.{Known}
use Rattle.rule_types.specs.Rules.{Rule}
use Rattle.device_core.specs.Values.{EventValue}
use Rattle.device_core.specs.Tried.{tried}
use Rattle.engine_sessions.specs.EventLine.{event_line}
use Rattle.eval_courses.specs.Questions.{questions}

-- a command as the line of a block that asks it
abbrev pub question_line : Text → Text
question_line command = codes "Q: " ++ command ++ newline ∷ []

-- the lines of several commands
abbrev pub question_lines : List Text → Text
question_lines commands = flat_map question_line commands

-- the event as in any answer, what rules ask of it, and an empty line
unfoldable pub question_answer : List Rule → Known → EventValue → Text
question_answer rules known event =
    event_line event.action event.device.path ++ question_lines (questions (tried event rules) known event) ++ newline ∷ []
