-- The answer to an event by the rules as they were read, with what a line asks for in addition.
use Rattle.std.specs.Prelude.{Bool, if◌then◌else◌, List, [], ◌∷◌, ◌++◌}
use Rattle.text_bytes.specs.Names.{newline}
use Rattle.file_messages.specs.declared.message.Message.{Message}
use Rattle.text_bytes.specs.Text.{Text}
use Rattle.builtin_devices.specs.Knowledge.{Known}
use Rattle.rule_types.specs.Rules.{Rule}
use Rattle.device_core.specs.Values.{EventValue}
use Rattle.device_core.specs.Tried.{tried}
use Rattle.eval_unread.specs.Unread.{whole_outcome}
use Rattle.engine_answers.specs.Answers.{answer_lines, sourced_lines}
use Rattle.engine_courses.specs.WhyLines.{why_lines}
use Rattle.engine_answers.specs.JsonAnswers.{json_answer}

-- what is asked for, whether JSON, whether sources and for which rules what they met, and what events are answered by: the
-- messages about the rules, and the rules
pub record ReportedValue : Type 0 where
  pub json : Bool
  pub sources : Bool
  pub why : List Text
  pub messages : List Message
  pub rules : List Rule

-- the lines of an answer, with sources or without
abbrev pub lines_reported : (sources : Bool) → List Rule → Known → EventValue → Text
lines_reported sources rules known event =
    if sources then sourced_lines rules known event else answer_lines event (whole_outcome (tried event rules) known event)

-- the answer to an event, by what is known beyond it: its lines, then what the rules that are asked for met, and an empty line;
-- or all of this as an object of JSON on one line
abbrev pub reported_by : ReportedValue → Known → EventValue → Text
reported_by t known event =
    let why = why_lines t.why t.messages t.rules known event in
    if t.json then json_answer t.sources why t.rules known event else lines_reported t.sources t.rules known event ++ why ++ newline ∷ []
