-- The answer to an event as an object of JSON on one line.
use Rattle.std.specs.Prelude.{Bool, if◌then◌else◌, List, [], ◌∷◌, ◌++◌, Some, codes, map}
use Rattle.text_bytes.specs.Text.{Text}
use Rattle.json.specs.Json.{Json}
use Rattle.text_json.specs.Told.{told}
use Rattle.text_json.specs.Values.{array_of, object_of, value_line}
use Rattle.builtin_devices.specs.Knowledge.{Known}
use Rattle.rule_types.specs.Rules.{Rule}
use Rattle.device_core.specs.Values.{EventValue}
use Rattle.device_core.specs.Tried.{tried}
use Rattle.eval_rules.specs.declared.outcome.Outcome.{Outcome}
use Rattle.eval_sources.specs.Sources.{source_of}
use Rattle.eval_sources.specs.Reported.{event_commands, stages}
use Rattle.eval_unread.specs.Unread.{whole_outcome}
use Rattle.engine_answers.specs.Members.{Member, Shape, item_members, note_values, run_value, sourced, sourced_runs, why_values}

-- the members of an answer, by how its items are written, its commands and the lines of `--why`
unfoldable pub answer_members : Shape → List Json → Text → EventValue → Outcome → List Member
answer_members shape runs why event outcome =
    ((codes "event", told event.action) ∷ (codes "path", told event.device.path) ∷ [])
    ++ item_members shape event.profile outcome
    ++ ((codes "run", array_of runs) ∷ [])
    ++ ((codes "notes", array_of (note_values event outcome.notes)) ∷ [])
    ++ ((codes "why", array_of (why_values why)) ∷ [])

-- the answer to an event with this outcome
abbrev pub plain_object : Text → EventValue → Outcome → Json
plain_object why event outcome = object_of (answer_members (λ item value. value) (map run_value outcome.runs) why event outcome)

-- the answer to an event by rules and what is known, each value with the rule that it comes from
abbrev pub sourced_object : Text → List Rule → Known → EventValue → Json
sourced_object why rules known event =
    object_of (answer_members (λ item value. sourced (source_of (stages rules known event) item) value)
    (sourced_runs (event_commands rules known event)) why event (whole_outcome rules known event))

-- the same with sources or without, as a line
abbrev pub json_by : Bool → Text → List Rule → Known → EventValue → Text
json_by sources why rules known event =
    value_line (if sources then sourced_object why rules known event else plain_object why event (whole_outcome rules known event))

-- the answer by the rules that are tried
abbrev pub json_answer : Bool → Text → List Rule → Known → EventValue → Text
json_answer sources why rules known event = json_by sources why (tried event rules) known event
