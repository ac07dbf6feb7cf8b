-- Serves inner proofs only: what a scene weighs while rules run.
use Rattle.std.specs.Prelude.{◌≡◌, ◌≤◌, ℕ, ◌+◌, length}
use Rattle.std.specs.List.{sum_by}
use Rattle.device_core.specs.Values.{EventValue}
use Rattle.rule_types.specs.Names.{run_name}
use Rattle.eval_laws.specs.DeviceWeights.{given_weight, pairs_weight, text_weight, texts_weight}
use Rattle.eval_state.specs.Runs.{RunValue, run_kind}
use Rattle.eval_state.specs.declared.made_runs.MadeRun.{MadeRun}
use Rattle.eval_state.specs.declared.scene.Scene.{Scene}
use Rattle.eval_laws.specs.Weights.{note_weight}

-- a RUN that is kept, at most: its command with its type, or the note about it
abbrev pub run_weight : RunValue → ℕ
run_weight kept = 16448 + length kept.rule.file

-- a RUN that was rendered at its rule: its command with its type
abbrev pub made_weight : MadeRun → ℕ
made_weight made = text_weight (run_name (run_kind made.run.braces)) + text_weight made.text

-- what a scene weighs at most, if no rule is left
unfoldable pub scene_weight : Scene → ℕ
scene_weight s =
    given_weight s.state.name + given_weight s.owner + given_weight s.group + given_weight s.mode
    + pairs_weight s.labels + texts_weight s.state.links + texts_weight s.state.tags
    + pairs_weight s.state.env + pairs_weight s.attrs + pairs_weight s.sysctls
    + sum_by run_weight s.runs + sum_by made_weight s.made + sum_by note_weight s.notes

-- a scene of an event weighs at most so much
pub record Within (event : EventValue) (most : ℕ) (s : Scene) : Type 0 where
  pub same : s.state.event ≡ event
  pub light : scene_weight s ≤ most
