-- The outcome of an event so far: if nothing is left, before any rule has run, with one more note, and with other
-- properties.
use Rattle.std.specs.Prelude.{false, List, [], ◌∷◌, ◌++◌, Option, None}
use Rattle.text_bytes.specs.Text.{Text}
use Rattle.text_tables.specs.Pairs.{Pair}
use Rattle.device_core.specs.Values.{EventValue}
use Rattle.rule_types.specs.Rules.{Rule}
use Rattle.eval_state.specs.Start.{blank_state, start_state}
use Rattle.eval_state.specs.Finals.{no_finals}
use Rattle.eval_state.specs.Ran.{none_ran}
use Rattle.rule_types.specs.declared.keys.Key.{Key}
use Rattle.eval_state.specs.Notes.{note_about, word_of_key}
use Rattle.eval_state.specs.declared.note_kind.NoteKind.{NoteKind}
use Rattle.eval_state.specs.declared.scene.Scene.{Scene}
use Rattle.eval_state.specs.declared.state.State.{State}

-- a scene in which nothing is left but the event itself
abbrev pub blank : EventValue → Scene
blank event = record {
  state = blank_state event;
  owner = None;
  group = None;
  mode = None;
  priority = None;
  watch = None;
  persist = false;
  gone = [];
  labels = [];
  attrs = [];
  sysctls = [];
  runs = [];
  made = [];
  notes = [];
  finals = no_finals;
  ran = none_ran;
}

-- the outcome of an event before any rule has run: its state as it begins, and nothing collected
abbrev pub start : EventValue → Scene
start event = record (blank event) { state = start_state event }

-- one more note: that something in a rule was not done, reported with a text
abbrev pub noted : Rule → NoteKind → Text → Scene → Scene
noted r kind text s = record s { notes = s.notes ++ note_about r kind text ∷ [] }

-- one more note, reported with a key
abbrev pub noted_key : Rule → NoteKind → Key → Option Text → Scene → Scene
noted_key r kind key attribute s = noted r kind (word_of_key key attribute) s

-- a scene in which the state is changed
abbrev pub with_state : (State → State) → Scene → Scene
with_state change s = record s { state = change s.state }

-- a scene with other properties
abbrev pub with_env : List Pair → Scene → Scene
with_env env s = record s { state = record s.state { env = env } }
