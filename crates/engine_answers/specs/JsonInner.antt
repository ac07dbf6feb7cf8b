-- Serves inner proofs only: the value of an item and the commands, and how they are written with what is kept for each, or without.
use Rattle.std.specs.Prelude.{List, map, Option, Some, None}
use Rattle.std.specs.Fmt.{signed_decimal}
use Rattle.json.specs.Json.{Json, boolean, number}
use Rattle.text_json.specs.Told.{told}
use Rattle.eval_sources.specs.Sources.{Held, source_in}
use Rattle.engine_answers.specs.Members.{Shape, label_value, run_value, sourced, sourced_runs}
use Rattle.engine_answers.specs.declared.json_answers.Runs.{Runs}
use Rattle.engine_answers.specs.declared.json_answers.Runs.TheVariants as runs
use Rattle.engine_answers.specs.declared.shape.Value.{Value}
use Rattle.engine_answers.specs.declared.shape.Value.TheVariants as value

-- a value, as JSON has it
abbrev pub json_of : Value → Json
json_of (value.Text text) = told text.now
json_of (value.Number priority) = number (signed_decimal priority)
json_of (value.Mark is) = boolean is
json_of (value.Label label) = label_value label.now

-- how the value of an item is written: with where it comes from, by what is kept for each, or as it is
abbrev pub shape_of : Option Held → Shape
shape_of None = λ item value. value
shape_of (Some held) = λ item value. sourced (source_in held None item) value

-- the commands of an answer
abbrev pub runs_of : Runs → List Json
runs_of (runs.Alone all) = map run_value all.now
runs_of (runs.Sourced all) = sourced_runs all.now
