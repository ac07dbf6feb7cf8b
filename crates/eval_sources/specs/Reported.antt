-- The stages and the commands of an event, and where they come from.
use Rattle.std.specs.Prelude.{if◌then◌else◌, List, [], ◌∷◌, ◌++◌, Option, Some, None, map, flat_map}
use Rattle.text_bytes.specs.Text.{Text}
use Rattle.builtin_devices.specs.Knowledge.{Known}
use Rattle.rule_types.specs.Rules.{Rule}
use Rattle.device_core.specs.Values.{EventValue}
use Rattle.eval_state.specs.Runs.{RunValue}
use Rattle.eval_state.specs.Scenes.{start}
use Rattle.eval_state.specs.declared.made_runs.MadeRun.{MadeRun}
use Rattle.eval_state.specs.declared.scene.Scene.{Scene}
use Rattle.eval_state.specs.declared.state.State.{State}
use Rattle.eval_rules.specs.Jumps.{is_passed, run_all, sought_after}
use Rattle.eval_rules.specs.Outcomes.{command, made_command, run_text}
use Rattle.eval_rules.specs.Steps.{apply}
use Rattle.eval_rules.specs.declared.outcome.Command.{Command}
use Rattle.eval_effects.specs.Items.{items}
use Rattle.eval_sources.specs.Sources.{Stage}

-- a stage for each rule that is reached, perhaps while a label is looked for, with the items that are there after it
unfoldable pub stages_from : Known → Option Text → List Rule → Scene → List Stage
stages_from known sought [] s = []
stages_from known sought (r ∷ rs) s =
    if is_passed sought r then stages_from known sought rs s
    else (Some r, items (apply known r s).0) ∷ stages_from known (sought_after (apply known r s).1 r) rs (apply known r s).0

-- all stages from a scene on: at the start, and after each rule that is reached
abbrev pub stages_over : Known → List Rule → Scene → List Stage
stages_over known rules s = (None, items s) ∷ stages_from known None rules s

-- the stages of an event
abbrev pub stages : List Rule → Known → EventValue → List Stage
stages rules known event = stages_over known rules (start event)

-- the commands of RUNs, each with the rule that added it
abbrev pub sourced_commands : State → List RunValue → List (Command × Rule)
sourced_commands state runs = flat_map (λ kept. map (λ done. (done, kept.rule)) (command kept (run_text state kept))) runs

-- a command that was made at its rule, with that rule
abbrev pub sourced_made : MadeRun → Command × Rule
sourced_made made = (made_command made, made.run.rule)

-- the commands after the last rule, from a scene on, each with the rule that added it
abbrev pub commands_over : Known → List Rule → Scene → List (Command × Rule)
commands_over known rules s =
    let end = run_all known rules s in sourced_commands end.state end.runs ++ map sourced_made end.made

-- the commands of an event, each with the rule that added it
abbrev pub event_commands : List Rule → Known → EventValue → List (Command × Rule)
event_commands rules known event = commands_over known rules (start event)
