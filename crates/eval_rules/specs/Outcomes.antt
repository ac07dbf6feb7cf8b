-- The outcome of an event.
use Rattle.std.specs.Prelude.{List, [], ◌∷◌, ◌++◌, map, option_map, flat_map}
use Rattle.text_tables.specs.Sorted.{by_name}
use Rattle.builtin_devices.specs.Knowledge.{Known}
use Rattle.rule_types.specs.Names.{run_name}
use Rattle.rule_types.specs.declared.keys.Key.TheVariants as key
use Rattle.rule_types.specs.Rules.{Rule}
use Rattle.device_core.specs.Values.{EventValue}
use Rattle.eval_state.specs.declared.state.State.{State}
use Rattle.eval_rendering.specs.Rendering.{render}
use Rattle.eval_rendering.specs.declared.rendered.Mode.TheVariants.{Plain}
use Rattle.eval_rendering.specs.declared.rendered.Rendered.{Rendered}
use Rattle.eval_rendering.specs.declared.rendered.Rendered.TheVariants as rendered
use Rattle.eval_state.specs.Notes.{note_about, word_of_key}
use Rattle.eval_state.specs.Runs.{RunValue, run_kind}
use Rattle.eval_state.specs.Scenes.{start}
use Rattle.eval_state.specs.Texts.{filled}
use Rattle.eval_state.specs.declared.note_kind.NoteKind.TheVariants.{TextTooLong}
use Rattle.eval_state.specs.declared.made_runs.MadeRun.{MadeRun}
use Rattle.eval_state.specs.declared.notes.Note.{Note}
use Rattle.eval_state.specs.declared.scene.Scene.{Scene}
use Rattle.eval_assignments.specs.Tags.{current_tags}
use Rattle.eval_rules.specs.Steps.{with_selected}
use Rattle.eval_rules.specs.Jumps.{run_all}
use Rattle.eval_rules.specs.declared.outcome.Command.{Command}
use Rattle.eval_rules.specs.declared.outcome.Outcome.{Outcome}

-- a RUN as it is rendered at the end: over what is then known, but with the device that its rule had selected
abbrev pub run_text : State → RunValue → Rendered
run_text state kept = render kept.template (with_selected kept.selected state) Plain

-- a RUN as a command, once it is rendered; one that is too long is left out
abbrev pub command : RunValue → Rendered → List Command
command kept (rendered.Text text) = record { kind = run_kind kept.braces; text = text } ∷ []
command kept rendered.TooLong = []

-- the note of a RUN that is too long, with its braces if it has any
abbrev pub late_note : RunValue → Rendered → List Note
late_note kept (rendered.Text text) = []
late_note kept rendered.TooLong = note_about kept.rule TextTooLong (word_of_key key.Run (option_map run_name kept.braces)) ∷ []

-- the commands of what is kept, in its order
abbrev pub commands : State → List RunValue → List Command
commands state runs = flat_map (λ kept. command kept (run_text state kept)) runs

-- the notes about these commands
abbrev pub late_notes : State → List RunValue → List Note
late_notes state runs = flat_map (λ kept. late_note kept (run_text state kept)) runs

-- a RUN as a command for udev: it was rendered at its rule
abbrev pub made_command : MadeRun → Command
made_command made = record { kind = run_kind made.run.braces; text = made.text }

-- the outcome of a scene when no rule is left: without a name that is empty and the tags that were removed, and with
-- the commands that were made at their rules after those that are rendered now
unfoldable pub outcome_of : Scene → Outcome
outcome_of s = record {
  name = filled s.state.name;
  owner = s.owner;
  group = s.group;
  mode = s.mode;
  priority = s.priority;
  watch = s.watch;
  persist = s.persist;
  labels = s.labels;
  links = s.state.links;
  tags = current_tags s;
  env = by_name s.state.env;
  attrs = s.attrs;
  sysctls = s.sysctls;
  runs = commands s.state s.runs ++ map made_command s.made;
  notes = s.notes ++ late_notes s.state s.runs;
}

-- the outcome of an event: all rules run over it from its start, and at the end what they keep is rendered
abbrev pub outcome : List Rule → Known → EventValue → Outcome
outcome rules known event = outcome_of (run_all known rules (start event))
