-- RUN: what is to be run, as it is written, and as udev renders it at its rule.
use Rattle.std.specs.Prelude.{List, [], ◌∷◌, ◌++◌, Option, Some, option_map}
use Rattle.text_bytes.specs.Text.{Text}
use Rattle.rule_tokens.specs.Template.{Parts as Template}
use Rattle.rule_types.specs.Names.{run_name}
use Rattle.rule_types.specs.Rules.{Rule}
use Rattle.rule_types.specs.declared.keys.Key.TheVariants as key
use Rattle.rule_types.specs.declared.roles.AssignOperator.{AssignOperator}
use Rattle.rule_types.specs.declared.roles.AssignOperator.TheVariants.{Add}
use Rattle.rule_types.specs.declared.types.RunType.{RunType}
use Rattle.eval_rendering.specs.Bounds.{most_command_bytes, within}
use Rattle.eval_rendering.specs.Rendering.{render}
use Rattle.eval_rendering.specs.declared.rendered.Mode.TheVariants.{Plain}
use Rattle.eval_rendering.specs.declared.rendered.Rendered.{Rendered}
use Rattle.eval_rendering.specs.declared.rendered.Rendered.TheVariants as rendered
use Rattle.eval_state.specs.Runs.{RunValue, runs_after}
use Rattle.eval_state.specs.Scenes.{noted_key}
use Rattle.eval_state.specs.declared.finals.FinalKey.TheVariants as final
use Rattle.eval_state.specs.declared.made_runs.MadeRun.{MadeRun}
use Rattle.eval_state.specs.declared.note_kind.NoteKind.TheVariants.{NoValue, TextTooLong}
use Rattle.eval_state.specs.declared.scene.Scene.{Scene}
use Rattle.eval_assignments.specs.Finality.{finally}
use Rattle.eval_assignments.specs.Links.{words}

-- a RUN as it is written, with the device that is selected now
abbrev pub run_of : Rule → Option RunType → Template → Scene → RunValue
run_of r braces template s = record { rule = r; braces = braces; template = template; selected = s.state.selected }

-- a RUN is added as it is written
abbrev pub run_kept : Rule → AssignOperator → Option RunType → Template → Scene → Scene
run_kept r o braces template s = finally o (Some final.Run) (record s { runs = runs_after o s.runs (run_of r braces template s) })

-- the commands that stay before one is set: all if it is added with `+=`, otherwise none
abbrev pub made_before : AssignOperator → List MadeRun → List MadeRun
made_before Add made = made
made_before _ made = []

-- a command is added to the others, by its words: without one it leaves a note
abbrev pub command_made : Rule → Option RunType → Template → Text → List Text → Scene → Scene
command_made r braces template text [] s = noted_key r NoValue key.Run (option_map run_name braces) s
command_made r braces template text (word ∷ more) s = record s { made = s.made ++ record { run = run_of r braces template s; text = text } ∷ [] }

-- a RUN once it is rendered is added to the others; one that is too long leaves a note
abbrev pub run_made : Rule → Option RunType → Template → Rendered → Scene → Scene
run_made r braces template rendered.TooLong s = noted_key r TextTooLong key.Run (option_map run_name braces) s
run_made r braces template (rendered.Text text) s = command_made r braces template text (words text) s

-- a RUN is rendered and added; whatever its outcome, `=` and `:=` remove all others, and `:=` makes RUN final
abbrev pub run_rendered : Rule → AssignOperator → Option RunType → Template → Scene → Scene
run_rendered r o braces template s =
    finally o (Some final.Run)
    (run_made r braces template (within most_command_bytes (render template s.state Plain)) (record s { made = made_before o s.made }))
