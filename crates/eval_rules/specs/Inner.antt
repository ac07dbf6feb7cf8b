-- Serves inner proofs only: what functions below the public ones leave.
use Rattle.std.specs.Prelude.{List, ◌++◌, None, fold}
use Rattle.text_tables.specs.Pairs.{Pair}
use Rattle.eval_state.specs.Texts.{filled}
use Rattle.eval_state.specs.declared.notes.Note.{Note}
use Rattle.eval_state.specs.declared.scene.Scene.{Scene}
use Rattle.eval_assignments.specs.Tags.{current_tags}
use Rattle.rule_types.specs.Rules.{Rule}
use Rattle.eval_rules.specs.Steps.{with_selected}
use Rattle.eval_rules.specs.Watched.{Telling, passed}
use Rattle.eval_rules.specs.declared.outcome.Command.{Command}
use Rattle.eval_rules.specs.declared.outcome.Outcome.{Outcome}

-- a scene in which no device is selected
abbrev pub unselected : Scene → Scene
unselected s = record s { state = with_selected None s.state }

-- a scene with further notes
abbrev pub with_notes : List Note → Scene → Scene
with_notes notes s = record s { notes = s.notes ++ notes }

-- an outcome that is made of a scene, of properties and of commands
abbrev pub made_from : Scene → List Pair → List Command → Outcome
made_from s env runs = record {
  name = filled s.state.name;
  owner = s.owner;
  group = s.group;
  mode = s.mode;
  priority = s.priority;
  watch = s.watch;
  persist = s.persist;
  labels = s.labels;
  links = s.state.links;
  tags = current_tags s;
  env = env;
  attrs = s.attrs;
  sysctls = s.sysctls;
  runs = runs;
  notes = s.notes;
}

-- what a watcher is after it was told of rules that are passed over
abbrev pub passed_told : {W : Type 0} → Telling W → Scene → W → List Rule → W
passed_told tell s w rules = fold (λ v r. tell v (passed r) s) w rules
