-- Answers are read back as JSON: each number is one, and nothing is nested deeper than a reader follows.
use Rattle.std.proofs.Common.{◌≡◌, ℕ, ℤ, suc, ◌^◌, ◌<◌, ◌≤◌, Bool, true, false, List, [], ◌∷◌, ◌++◌, All, codes, drop, filter, map, not, Option, Some, None, refl, arith}
use Rattle.std.specs.Prelude.{IfSome}
use Rattle.std.specs.Int.Signed.{mag}
use Rattle.std.specs.List.{AllByRecursion}
use Rattle.text_bytes.specs.Lines.{lines}
use Rattle.text_bytes.specs.declared.profile.Profile.{Profile}
use Rattle.text_bytes.specs.Text.{Text}
use Rattle.text_tables.specs.Pairs.{Pair}
use Rattle.json.specs.Json.{Json, document}
use Rattle.json.specs.Print.{print}
use Rattle.json.specs.Tree.{HasNumbers, ItemsHaveNumbers, MembersHaveNumbers, depth, items_depth, json_tokens, members_depth}
use Rattle.json.proofs.Printed.Decimals.{IsNumber-decimal, IsNumber-signed_decimal}
use Rattle.json.proofs.Printed.Trees.{document-print}
use Rattle.text_json.specs.Told.{told}
use Rattle.text_json.specs.Values.{array_of, items_of, members_of, number_value, object_of}
use Rattle.rule_types.specs.Names.{run_name}
use Rattle.rule_types.specs.Rules.{Rule}
use Rattle.device_core.specs.Values.{EventValue}
use Rattle.device_core.specs.Notes.{block_notes, text_of as text_about_block}
use Rattle.device_core.specs.declared.notes.BlockNote.{BlockNote}
use Rattle.eval_state.specs.Notes.{text_of}
use Rattle.eval_state.specs.declared.notes.Note.{Note}
use Rattle.eval_rules.specs.declared.outcome.Command.{Command}
use Rattle.eval_rules.specs.declared.outcome.Outcome.{Outcome}
use Rattle.eval_effects.specs.Items.{item_name, label_item, watch_word}
use Rattle.eval_sources.specs.Sources.{Source}
use Rattle.engine_answers.specs.Lines.{is_hidden}
use Rattle.engine_answers.specs.JsonAnswers.{answer_members, plain_object}
use Rattle.engine_answers.specs.Members.{Member, Shape, env_members, given_members, item_members, label_value, label_values, node_members, block_note_value, note_value, note_values, persist_members, priority_members, run_value, source_members, sourced, sourced_runs, text_values, value_members, watch_members, why_value, why_values}

-- the numbers of a value are numbers, and it is nested no deeper than this
abbrev pub Good : ℕ → Json → Type 0
Good n j = HasNumbers j × (depth j ≤ n)

abbrev pub GoodMembers : ℕ → List Member → Type 0
GoodMembers n ms = AllByRecursion (λ (m : Member). Good n m.1) ms

abbrev pub GoodValues : ℕ → List Json → Type 0
GoodValues n js = AllByRecursion (Good n) js

members_good : (n : ℕ) (ms : List Member) → GoodMembers n ms → MembersHaveNumbers (members_of ms) × (members_depth (members_of ms) ≤ n)
members_good n [] h = (tt, omega arith)
members_good n (m ∷ ms) h = let more = members_good n ms h.1 in ((h.0.0, more.0), omega (arith, h.0.1, more.1))

items_good : (n : ℕ) (js : List Json) → GoodValues n js → ItemsHaveNumbers (items_of js) × (items_depth (items_of js) ≤ n)
items_good n [] h = (tt, omega arith)
items_good n (j ∷ js) h = let more = items_good n js h.1 in ((h.0.0, more.0), omega (arith, h.0.1, more.1))

object_good : (n : ℕ) (ms : List Member) → GoodMembers n ms → Good (suc n) (object_of ms)
object_good n ms h = let all = members_good n ms h in (all.0, omega (arith, all.1))

array_good : (n : ℕ) (js : List Json) → GoodValues n js → Good (suc n) (array_of js)
array_good n js h = let all = items_good n js h in (all.0, omega (arith, all.1))

append_good : (n : ℕ) (a b : List Member) → GoodMembers n a → GoodMembers n b → GoodMembers n (a ++ b)
append_good n [] b p q = q
append_good n (m ∷ a) b p q = (p.0, append_good n a b p.1 q)

append_values_good : (n : ℕ) (a b : List Json) → GoodValues n a → GoodValues n b → GoodValues n (a ++ b)
append_values_good n [] b p q = q
append_values_good n (j ∷ a) b p q = (p.0, append_values_good n a b p.1 q)

told_good : (n : ℕ) (text : Text) → Good n (told text)
told_good n text = (tt, omega arith)

number_good : (n line : ℕ) → line < 2 ^ 64 → Good n (number_value line)
number_good n line h = (IsNumber-decimal line h, omega arith)

-- a shape nests no deeper than by one, and leaves numbers numbers
abbrev pub Keeps : Shape → Type 0
Keeps shape = (item : Pair) (j : Json) → Good 1 j → Good 2 (shape item j)

-- as a member, of which others are deeper
up : (j : Json) → Good 2 j → Good 3 j
up j h = (h.0, omega (arith, h.1))

module _ (shape : Shape) (keeps : Keeps shape) where
  given_good : (word : Text) (text : Option Text) → GoodMembers 3 (given_members shape word text)
  given_good word None = tt
  given_good word (Some text) = (up (shape (word, text) (told text)) (keeps (word, text) (told text) (told_good 1 text)), tt)

  priority_good : (priority : Option ℤ) → IfSome priority (λ p. mag p < 2 ^ 63) → GoodMembers 3 (priority_members shape priority)
  priority_good None h = tt
  priority_good (Some p) h = (up _ (keeps _ _ (IsNumber-signed_decimal p h, omega arith)), tt)

  watch_good : (watch : Option Bool) → GoodMembers 3 (watch_members shape watch)
  watch_good None = tt
  watch_good (Some watched) = (up _ (keeps (watch_word watched, []) _ (tt, omega arith)), tt)

  persist_good : (persist : Bool) → GoodMembers 3 (persist_members shape persist)
  persist_good true = (up _ (keeps (codes "persist", []) _ (tt, omega arith)), tt)
  persist_good false = tt

  node_good : (outcome : Outcome) → IfSome outcome.priority (λ p. mag p < 2 ^ 63) → GoodMembers 3 (node_members shape outcome)
  unfolding node_members
  node_good outcome h =
      let names = append_good 3 _ _ (given_good (codes "name") outcome.name) (given_good (codes "owner") outcome.owner) in
      let groups = append_good 3 _ _ names (given_good (codes "group") outcome.group) in
      let modes = append_good 3 _ _ groups (given_good (codes "mode") outcome.mode) in
      let priorities = append_good 3 _ _ modes (priority_good outcome.priority h) in
      append_good 3 _ _ (append_good 3 _ _ priorities (watch_good outcome.watch)) (persist_good outcome.persist)

  label_good : (label : Pair) → Good 1 (label_value label)
  unfolding label_value
  label_good label = object_good 0 ((codes "module", told label.0) ∷ (codes "label", told label.1) ∷ []) (told_good 0 label.0, (told_good 0 label.1, tt))

  labels_good : (profile : Profile) (labels : List Pair) → GoodValues 2 (label_values shape profile labels)
  labels_good profile [] = tt
  labels_good profile (label ∷ labels) = (keeps (label_item profile label) (label_value label) (label_good label), labels_good profile labels)

  texts_good : (word : Text) (texts : List Text) → GoodValues 2 (text_values shape word texts)
  texts_good word [] = tt
  texts_good word (text ∷ texts) = (keeps (item_name word text, []) (told text) (told_good 1 text), texts_good word texts)

  values_good : (word : Text) (pairs : List Pair) → GoodMembers 2 (value_members shape word pairs)
  values_good word [] = tt
  values_good word (pair ∷ pairs) = (keeps (item_name word pair.0, pair.1) (told pair.1) (told_good 1 pair.1), values_good word pairs)

  items_are_good : (profile : Profile) (outcome : Outcome) → IfSome outcome.priority (λ p. mag p < 2 ^ 63) → GoodMembers 3 (item_members shape profile outcome)
  unfolding item_members
  items_are_good profile outcome h =
      let labels = append_good 3 _ ((codes "labels", array_of (label_values shape profile outcome.labels)) ∷ []) (node_good outcome h) (array_good 2 _ (labels_good profile outcome.labels), tt) in
      let links = append_good 3 _ ((codes "links", array_of (text_values shape (codes "link") outcome.links)) ∷ []) labels (array_good 2 _ (texts_good (codes "link") outcome.links), tt) in
      let tags = append_good 3 _ ((codes "tags", array_of (text_values shape (codes "tag") outcome.tags)) ∷ []) links (array_good 2 _ (texts_good (codes "tag") outcome.tags), tt) in
      let env = append_good 3 _ ((codes "env", object_of (env_members shape outcome.env)) ∷ []) tags (object_good 2 _ (values_good (codes "env") (filter (λ (pair : Pair). not (is_hidden pair.0)) outcome.env)), tt) in
      let attr = append_good 3 _ ((codes "attr", object_of (value_members shape (codes "attr") outcome.attrs)) ∷ []) env (object_good 2 _ (values_good (codes "attr") outcome.attrs), tt) in
      append_good 3 _ ((codes "sysctl", object_of (value_members shape (codes "sysctl") outcome.sysctls)) ∷ []) attr (object_good 2 _ (values_good (codes "sysctl") outcome.sysctls), tt)

  note_good : (note : Note) → note.line < 2 ^ 64 → Good 2 (note_value note)
  unfolding note_value
  note_good note h = let all = object_good 0 ((codes "file", told note.file) ∷ (codes "line", number_value note.line) ∷ (codes "text", told (text_of note.kind)) ∷ (codes "word", told note.word) ∷ []) (told_good 0 note.file, (number_good 0 note.line h, (told_good 0 (text_of note.kind), (told_good 0 note.word, tt)))) in (all.0, omega (arith, all.1))

  notes_good : (notes : List Note) → All (λ (n : Note). n.line < 2 ^ 64) notes → GoodValues 2 (map note_value notes)
  notes_good [] h = tt
  notes_good (note ∷ notes) h = (note_good note (h 0 note (omega arith)), notes_good notes (λ k d l. h (suc k) d (omega arith)))

  block_note_good : (note : BlockNote) → Good 2 (block_note_value note)
  unfolding block_note_value
  block_note_good note =
      let all = object_good 0 ((codes "text", told (text_about_block note.kind)) ∷ (codes "word", told note.word) ∷ []) (told_good 0 (text_about_block note.kind), (told_good 0 note.word, tt)) in
      (all.0, omega (arith, all.1))

  block_notes_good : (notes : List BlockNote) → GoodValues 2 (map block_note_value notes)
  block_notes_good [] = tt
  block_notes_good (note ∷ notes) = (block_note_good note, block_notes_good notes)

  all_notes_good : (event : EventValue) (notes : List Note) → All (λ (n : Note). n.line < 2 ^ 64) notes → GoodValues 2 (note_values event notes)
  all_notes_good event notes h = append_values_good 2 (map block_note_value (block_notes event)) (map note_value notes) (block_notes_good (block_notes event)) (notes_good notes h)

  why_good : (said : List Text) → GoodValues 2 (map why_value said)
  why_good [] = tt
  why_good (line ∷ said) = (told_good 2 (drop 4 line), why_good said)

  answer_good : (runs : List Json) (why : Text) (event : EventValue) (outcome : Outcome) → GoodValues 2 runs → IfSome outcome.priority (λ p. mag p < 2 ^ 63)
      → All (λ (n : Note). n.line < 2 ^ 64) outcome.notes → GoodMembers 3 (answer_members shape runs why event outcome)
  unfolding answer_members
  answer_good runs why event outcome r p n =
      let head : List Member = (codes "event", told event.action) ∷ (codes "path", told event.device.path) ∷ [] in
      let items : List Member = item_members shape event.profile outcome in
      let run : List Member = (codes "run", array_of runs) ∷ [] in
      let notes : List Member = (codes "notes", array_of (note_values event outcome.notes)) ∷ [] in
      let said : List Member = (codes "why", array_of (why_values why)) ∷ [] in
      let start : GoodMembers 3 (head ++ items) = append_good 3 head items (told_good 3 event.action, (told_good 3 event.device.path, tt)) (items_are_good event.profile outcome p) in
      let ran : GoodMembers 3 ((head ++ items) ++ run) = append_good 3 (head ++ items) run start (array_good 2 runs r, tt) in
      let noted : GoodMembers 3 (((head ++ items) ++ run) ++ notes) = append_good 3 ((head ++ items) ++ run) notes ran (array_good 2 _ (all_notes_good event outcome.notes n), tt) in
      append_good 3 (((head ++ items) ++ run) ++ notes) said noted (array_good 2 _ (why_good (lines why)), tt)

  pub answer_read : (runs : List Json) (why : Text) (event : EventValue) (outcome : Outcome) → GoodValues 2 runs → IfSome outcome.priority (λ p. mag p < 2 ^ 63)
      → All (λ (n : Note). n.line < 2 ^ 64) outcome.notes
      → document (print (json_tokens (object_of (answer_members shape runs why event outcome)))) ≡ Some (object_of (answer_members shape runs why event outcome))
  answer_read runs why event outcome r p n =
      let all = object_good 3 (answer_members shape runs why event outcome) (answer_good runs why event outcome r p n) in
      document-print (object_of (answer_members shape runs why event outcome)) all.0 (omega (arith, all.1))

run_good : (command : Command) → Good 1 (run_value command)
unfolding run_value
run_good command = object_good 0 ((codes "type", told (run_name command.kind)) ∷ (codes "command", told command.text) ∷ []) (told_good 0 (run_name command.kind), (told_good 0 command.text, tt))

runs_good : (runs : List Command) → GoodValues 2 (map run_value runs)
runs_good [] = tt
runs_good (command ∷ runs) = let all = run_good command in ((all.0, omega (arith, all.1)), runs_good runs)

pub plain_read : (why : Text) (event : EventValue) (outcome : Outcome) → IfSome outcome.priority (λ p. mag p < 2 ^ 63) → All (λ (n : Note). n.line < 2 ^ 64) outcome.notes
    → document (print (json_tokens (plain_object why event outcome))) ≡ Some (plain_object why event outcome)
plain_read why event outcome p n =
    answer_read (λ item value. value) (λ item j h. (h.0, omega (arith, h.1))) (map run_value outcome.runs) why event outcome (runs_good outcome.runs) p n

source_good : (source : Source) → IfSome source (λ r. r.line < 2 ^ 64) → GoodMembers 1 (source_members source)
source_good None h = tt
source_good (Some r) h = (told_good 1 r.file, (number_good 1 r.line h, tt))

sourced_good : (source : Source) (j : Json) → IfSome source (λ r. r.line < 2 ^ 64) → Good 1 j → Good 2 (sourced source j)
unfolding sourced
sourced_good source j h g = object_good 1 ((codes "value", j) ∷ source_members source) (g, source_good source h)

sourced_runs_good : (commands : List (Command × Rule)) → All (λ (c : Command × Rule). c.1.line < 2 ^ 64) commands → GoodValues 2 (sourced_runs commands)
sourced_runs_good [] h = tt
sourced_runs_good (c ∷ commands) h =
    (sourced_good (Some c.1) (run_value c.0) (h 0 c (omega arith)) (run_good c.0), sourced_runs_good commands (λ k d l. h (suc k) d (omega arith)))

pub sourced_read : (source : Pair → Source) (commands : List (Command × Rule)) (why : Text) (event : EventValue) (outcome : Outcome)
    → ((item : Pair) → IfSome (source item) (λ r. r.line < 2 ^ 64)) → All (λ (c : Command × Rule). c.1.line < 2 ^ 64) commands
    → IfSome outcome.priority (λ p. mag p < 2 ^ 63) → All (λ (n : Note). n.line < 2 ^ 64) outcome.notes
    → document (print (json_tokens (object_of (answer_members (λ item value. sourced (source item) value) (sourced_runs commands) why event outcome))))
    ≡ Some (object_of (answer_members (λ item value. sourced (source item) value) (sourced_runs commands) why event outcome))
sourced_read source commands why event outcome s c p n =
    answer_read (λ item value. sourced (source item) value) (λ item j h. sourced_good (source item) j (s item) h) (sourced_runs commands) why event outcome (sourced_runs_good commands c) p n
