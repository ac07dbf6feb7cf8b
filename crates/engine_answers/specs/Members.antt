-- The parts of an answer as members of one object.
use Rattle.std.specs.Prelude.{ℤ, Bool, true, false, not, List, [], ◌∷◌, ◌++◌, Option, Some, None, codes, drop, filter, map}
use Rattle.std.specs.Fmt.{signed_decimal}
use Rattle.text_bytes.specs.Lines.{lines}
use Rattle.text_bytes.specs.declared.profile.Profile.{Profile}
use Rattle.text_bytes.specs.Text.{Text}
use Rattle.text_tables.specs.Pairs.{Pair}
use Rattle.json.specs.Json.{Json, boolean, number}
use Rattle.text_json.specs.Told.{told, told_text}
use Rattle.text_json.specs.Values.{array_of, number_value, object_of}
use Rattle.rule_types.specs.Names.{run_name}
use Rattle.rule_types.specs.Rules.{Rule}
use Rattle.device_core.specs.Values.{EventValue}
use Rattle.device_core.specs.Notes.{block_notes, text_of as text_about_block}
use Rattle.device_core.specs.declared.notes.BlockNote.{BlockNote}
use Rattle.eval_state.specs.Notes.{text_of}
use Rattle.eval_state.specs.declared.notes.Note.{Note}
use Rattle.eval_rules.specs.declared.outcome.Command.{Command}
use Rattle.eval_rules.specs.declared.outcome.Outcome.{Outcome}
use Rattle.eval_effects.specs.Items.{item_name, label_item, watch_word}
use Rattle.eval_sources.specs.Sources.{Source}
use Rattle.engine_answers.specs.Lines.{is_hidden}

-- a member of an object: its key and its value
abbrev pub Member : Type 0
Member = Text × Json

-- how the value of an item is written
abbrev pub Shape : Type 0
Shape = Pair → Json → Json

-- the members that say which rule something comes from
abbrev pub source_members : Source → List Member
source_members None = []
source_members (Some r) = (codes "file", told r.file) ∷ (codes "line", number_value r.line) ∷ []

-- a value with where it comes from
unfoldable pub sourced : Source → Json → Json
sourced source value = object_of ((codes "value", value) ∷ source_members source)

-- the text that is the only one of its word, if there is one
abbrev pub given_members : Shape → Text → Option Text → List Member
given_members shape word None = []
given_members shape word (Some text) = (word, shape (word, text) (told text)) ∷ []

-- the priority, if one was assigned
abbrev pub priority_members : Shape → Option ℤ → List Member
priority_members shape None = []
priority_members shape (Some priority) =
    (codes "priority", shape (codes "priority", signed_decimal priority) (number (signed_decimal priority))) ∷ []

-- whether the device is watched, if it was assigned
abbrev pub watch_members : Shape → Option Bool → List Member
watch_members shape None = []
watch_members shape (Some watched) = (codes "watch", shape (watch_word watched, []) (boolean watched)) ∷ []

-- that what is known stays in the database, if it does
abbrev pub persist_members : Shape → Bool → List Member
persist_members shape true = (codes "persist", shape (codes "persist", []) (boolean true)) ∷ []
persist_members shape false = []

-- the members on the device's node
unfoldable pub node_members : Shape → Outcome → List Member
node_members shape outcome =
    given_members shape (codes "name") outcome.name
    ++ given_members shape (codes "owner") outcome.owner
    ++ given_members shape (codes "group") outcome.group
    ++ given_members shape (codes "mode") outcome.mode
    ++ priority_members shape outcome.priority
    ++ watch_members shape outcome.watch
    ++ persist_members shape outcome.persist

-- the label of a module as an object
unfoldable pub label_value : Pair → Json
label_value label = object_of ((codes "module", told label.0) ∷ (codes "label", told label.1) ∷ [])

-- labels, each as its item has it
abbrev pub label_values : Shape → Profile → List Pair → List Json
label_values shape profile labels = map (λ label. shape (label_item profile label) (label_value label)) labels

-- texts of a word
abbrev pub text_values : Shape → Text → List Text → List Json
text_values shape word texts = map (λ text. shape (item_name word text, []) (told text)) texts

-- names of a word with their values, as members
abbrev pub value_members : Shape → Text → List Pair → List Member
value_members shape word pairs = map (λ pair. (told_text pair.0, shape (item_name word pair.0, pair.1) (told pair.1))) pairs

-- properties, without those that are for rules alone
abbrev pub env_members : Shape → List Pair → List Member
env_members shape pairs = value_members shape (codes "env") (filter (λ pair. not (is_hidden pair.0)) pairs)

-- the items of an answer that its first members have, and then those of which there can be several
unfoldable pub item_members : Shape → Profile → Outcome → List Member
item_members shape profile outcome =
    node_members shape outcome
    ++ ((codes "labels", array_of (label_values shape profile outcome.labels)) ∷ [])
    ++ ((codes "links", array_of (text_values shape (codes "link") outcome.links)) ∷ [])
    ++ ((codes "tags", array_of (text_values shape (codes "tag") outcome.tags)) ∷ [])
    ++ ((codes "env", object_of (env_members shape outcome.env)) ∷ [])
    ++ ((codes "attr", object_of (value_members shape (codes "attr") outcome.attrs)) ∷ [])
    ++ ((codes "sysctl", object_of (value_members shape (codes "sysctl") outcome.sysctls)) ∷ [])

-- a command that would be run
unfoldable pub run_value : Command → Json
run_value command = object_of ((codes "type", told (run_name command.kind)) ∷ (codes "command", told command.text) ∷ [])

-- commands, each with the rule that added it
abbrev pub sourced_runs : List (Command × Rule) → List Json
sourced_runs commands = map (λ c. sourced (Some c.1) (run_value c.0)) commands

-- a note
unfoldable pub note_value : Note → Json
note_value note =
    object_of (
    (codes "file", told note.file)
    ∷ (codes "line", number_value note.line)
    ∷ (codes "text", told (text_of note.kind))
    ∷ (codes "word", told note.word)
    ∷ [])

-- a note about the block, which no rule is named with
unfoldable pub block_note_value : BlockNote → Json
block_note_value note = object_of ((codes "text", told (text_about_block note.kind)) ∷ (codes "word", told note.word) ∷ [])

-- the notes of an answer: those about the block of its event, and then those about rules
abbrev pub note_values : EventValue → List Note → List Json
note_values event notes = map block_note_value (block_notes event) ++ map note_value notes

-- a line of `--why` without its first word
abbrev pub why_value : Text → Json
why_value line = told (drop 4 line)

-- the lines of `--why`, if there are any
abbrev pub why_values : Text → List Json
why_values why = map why_value (lines why)
