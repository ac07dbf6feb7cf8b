-- What appears and disappears as an object of JSON.
use Rattle.std.specs.Prelude.{Bool, ◌&&◌, ◌==◌, if◌then◌else◌, List, [], ◌∷◌, length, codes, map}
use Rattle.text_bytes.specs.Text.{Text}
use Rattle.json.specs.Json.{Json}
use Rattle.text_json.specs.Told.{told}
use Rattle.text_json.specs.Values.{array_of, object_of, value_line}
use Rattle.device_core.specs.Values.{EventValue}
use Rattle.engine_answers.specs.Differences.{ShownAnswer, differences, more_shown}

-- the event, with the lines that disappear and those that appear
abbrev pub differences_object : EventValue → List Text → List Text → Json
differences_object event gone come = object_of (
    (codes "event", told event.action)
    ∷ (codes "path", told event.device.path)
    ∷ (codes "gone", array_of (map told gone))
    ∷ (codes "come", array_of (map told come))
    ∷ [])

-- the same on a line; nothing if no line disappears or appears
abbrev pub object_for : EventValue → List Text → List Text → Text
object_for event gone come = if length gone == 0 && length come == 0 then [] else value_line (differences_object event gone come)

-- what appears and disappears between an old and a new answer to an event, as an object
abbrev pub differences_in_json : EventValue → (old new : ShownAnswer) → Text
differences_in_json event old new = object_for event (more_shown old new) (more_shown new old)

-- what is reported for an event, as JSON or as lines
abbrev pub compared : Bool → EventValue → (old new : ShownAnswer) → Text
compared json event old new = if json then differences_in_json event old new else differences event old new
