-- The answer to an event, with where each of its lines comes from in front of it or without.
use Rattle.std.specs.Prelude.{List, [], ◌∷◌, ◌++◌, Some, None, codes, flat_map, map}
use Rattle.text_bytes.specs.Names.{newline}
use Rattle.text_bytes.specs.Text.{Text}
use Rattle.text_tables.specs.Pairs.{Pair}
use Rattle.builtin_devices.specs.Knowledge.{Known}
use Rattle.rule_types.specs.Rules.{Rule}
use Rattle.device_core.specs.Values.{EventValue}
use Rattle.device_core.specs.Tried.{tried}
use Rattle.eval_rules.specs.declared.outcome.Command.{Command}
use Rattle.eval_rules.specs.declared.outcome.Outcome.{Outcome}
use Rattle.eval_sources.specs.Sources.{Source, source_of}
use Rattle.eval_sources.specs.Reported.{event_commands, stages}
use Rattle.eval_unread.specs.Unread.{whole_outcome}
use Rattle.engine_sessions.specs.Places.{place_of}
use Rattle.engine_answers.specs.Lines.{block_note_lines, note_lines, run_line}
use Rattle.engine_sessions.specs.EventLine.{event_line}
use Rattle.engine_answers.specs.Items.{item_lines}

-- lines, each after what is in front of it, by what it is about
abbrev pub lines_after : {A : Type 0} → (A → Text) → List (A × Text) → Text
lines_after front lines = flat_map (λ l. front l.0 ++ l.1) lines

-- the lines of an answer, by what is in front of those about items, and the lines of commands
unfoldable pub lines_with : (Pair → Text) → Text → EventValue → Outcome → Text
lines_with front runs event outcome =
    event_line event.action event.device.path
    ++ lines_after front (item_lines event.profile outcome)
    ++ runs
    ++ block_note_lines event
    ++ note_lines outcome.notes

-- the lines of the answer to an event with this outcome, one for each part that has something to say
abbrev pub answer_lines : EventValue → Outcome → Text
answer_lines event outcome = lines_with (λ item. []) (flat_map run_line outcome.runs) event outcome

-- the answer to an event with this outcome: its lines, and an empty line
abbrev pub answer : EventValue → Outcome → Text
answer event outcome = answer_lines event outcome ++ newline ∷ []

-- the answer to an event by rules and what is known: the whole outcome of those that are tried, as lines
abbrev pub answer_by : List Rule → Known → EventValue → Text
answer_by rules known event = answer event (whole_outcome (tried event rules) known event)

-- the lines of commands, each beside the rule that added it
abbrev pub command_lines : List (Command × Rule) → List (Source × Text)
command_lines commands = map (λ c. (Some c.1, run_line c.0)) commands

-- the lines of the answer to an event by rules and what is known, those about items and commands after such a part on where
-- they come from
abbrev pub lines_by : (Source → Text) → List Rule → Known → EventValue → Text
lines_by part rules known event =
    lines_with (λ item. part (source_of (stages rules known event) item)) (lines_after part (command_lines (event_commands rules known event)))
    event (whole_outcome rules known event)

-- where a line comes from, `FILE:LINE: `, or `-: ` if it comes from no rule
abbrev pub source_part : Source → Text
source_part None = codes "-: "
source_part (Some r) = place_of r.file r.line

-- the lines of the answer to an event by the rules that are tried, each after the place of the rule that it comes from
abbrev pub sourced_lines : List Rule → Known → EventValue → Text
sourced_lines rules known event = lines_by source_part (tried event rules) known event
