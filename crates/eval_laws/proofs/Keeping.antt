-- Keys that are final stay, through any further rules.
use Rattle.std.proofs.Common.{◌≡◌, ℕ, Bool, true, false, cond, ◌||◌, is_some, List, [], ◌∷◌, length, Option, Some, None, refl, ap, ◌∙◌, codes, nat_le}
use Rattle.std.specs.Option.{option_and_then}
use Rattle.std.specs.List.{fold}
use Rattle.text_bytes.specs.Names.{slash}
use Rattle.text_bytes.specs.Texts.{begins_with}
use Rattle.text_bytes.specs.declared.profile.Profile.{Profile}
use Rattle.text_bytes.specs.declared.profile.Profile.TheVariants.{Manual, Udev}
use Rattle.text_bytes.specs.Text.{Text}
use Rattle.text_tables.specs.Pairs.{Pair, value_of}
use Rattle.text_core.specs.Fnmatch.{fnmatch_items}
use Rattle.text_core.specs.declared.item.Item.{Item}
use Rattle.text_core.specs.declared.reading.Reading.TheVariants.{Exact}
use Rattle.builtin_devices.specs.Knowledge.{Known}
use Rattle.builtin_devices.specs.declared.root_files.RootFile.{RootFile}
use Rattle.builtin_devices.specs.declared.root_files.RootFile.TheVariants.{Absent, Read}
use Rattle.device_core.specs.Values.{AnswerValue, DeviceValue}
use Rattle.rule_tokens.specs.Template.{Parts}
use Rattle.rule_types.specs.declared.roles.PlainKey.{PlainKey}
use Rattle.rule_types.specs.declared.roles.PlainKey.TheVariants as plain
use Rattle.rule_types.specs.declared.part.Act.{Act}
use Rattle.rule_types.specs.declared.part.Comparison.{Comparison}
use Rattle.rule_types.specs.declared.part.ActKind.{ActKind}
use Rattle.rule_types.specs.declared.part.ActKind.TheVariants as act_kind
use Rattle.rule_types.specs.declared.part.Import.{Import}
use Rattle.rule_types.specs.declared.part.Import.TheVariants as import
use Rattle.rule_types.specs.declared.part.PlainMatch.{PlainMatch}
use Rattle.rule_types.specs.declared.part.UpMatch.{UpMatch}
use Rattle.rule_types.specs.Names.{import_name}
use Rattle.rule_types.specs.declared.types.ImportType.TheVariants.{Db, File}
use Rattle.rule_types.specs.Rules.{Rule}
use Rattle.eval_state.specs.Chains.{device_at}
use Rattle.eval_state.specs.Places.{is_there, place_of}
use Rattle.eval_state.specs.Named.{NamedValue, named, named_place}
use Rattle.eval_state.specs.Properties.{properties_set}
use Rattle.eval_state.specs.Scenes.{noted, with_env}
use Rattle.eval_state.specs.declared.note_kind.NoteKind.{NoteKind}
use Rattle.eval_state.specs.declared.note_kind.NoteKind.TheVariants.{AttributeNotRead, BuiltinNotRun, ConstantNotGiven, ImportNotRun, NoAnswer, TestNotMade, TextTooLong}
use Rattle.eval_rendering.specs.Bounds.{most_command_bytes, most_path_bytes}
use Rattle.eval_rendering.specs.declared.rendered.Rendered.{Rendered}
use Rattle.eval_rendering.specs.declared.rendered.Rendered.TheVariants as rendered
use Rattle.rule_types.specs.Builtins.{builtin_name}
use Rattle.rule_types.specs.declared.builtins.Builtin.TheVariants.{InputId, NetId, NetSetupLink, PathId, UsbId}
use Rattle.builtin_devices.specs.Outcomes.{OutcomeValue}
use Rattle.eval_commands.specs.Builtins.{builtin_question}
use Rattle.eval_commands.specs.Cmdline.{cmdline_value}
use Rattle.eval_commands.specs.declared.builtin.Builtin.{Builtin}
use Rattle.eval_commands.specs.declared.builtin.Builtin.TheVariants as builtin
use Rattle.eval_state.specs.Finals.{is_final}
use Rattle.eval_state.specs.declared.finals.FinalKey.{FinalKey}
use Rattle.eval_state.specs.declared.finals.FinalKey.TheVariants as key
use Rattle.eval_state.specs.declared.scene.Scene.{Scene}
use Rattle.eval_rendering.specs.Attributes.{is_not_read}
use Rattle.eval_rendering.specs.Subjects.{is_not_given}
use Rattle.eval_acts.specs.ActTexts.{import_text, names_text, program_text}
use Rattle.eval_acts.specs.Acts.{act_step, command_reached, from_parent_by, import_reached, imported, on_text, performed, too_long_noted}
use Rattle.eval_acts.specs.BuiltinRuns.{looked_up, most_set, needs_noted, outcome_set, outcome_taken, path_id_run, properties_size, usb_id_run, with_maker}
use Rattle.eval_acts.specs.RootImports.{file_properties, from_file, from_found}
use Rattle.eval_acts.specs.Stored.{from_stored, is_stored_known, stored_value}
use Rattle.eval_acts.specs.Imports.{builtin_run, from_answer_or_noted, from_line, from_parent, from_part, from_program, name_given, not_run, run_builtin, taken, words_for}
use Rattle.eval_commands.specs.LookUpNeeds.{lookup_needs}
use Rattle.eval_commands.specs.LookUps.{found}
use Rattle.eval_acts.specs.Printed.{printed_properties}
use Rattle.eval_acts.specs.Questions.{answered_by_block, answered_or_noted, is_somewhere, result_of, tested, tested_at, tested_by, tested_by_udev, tested_here, with_result}
use Rattle.eval_acts.specs.Reaching.{match_reached}
use Rattle.eval_laws.specs.AssignmentLaws.{Keeps, SameAt}
use Rattle.eval_assignments.specs.Steps.{set_step}
use Rattle.eval_laws.proofs.KeptParts.{value, itself, same_notes}
use Rattle.eval_laws.proofs.KeptParts as kept
use Rattle.eval_laws.proofs.Finality.{Lasts, fold_event, fold_keeps, lasts_on}
use Rattle.eval_rules.specs.Idle.{is_idle}
use Rattle.eval_rules.specs.Steps.{Went, apply, before_sets, if_proceeding, only_noted, plain_step, result_step, search, set_all, steps, walk}
use Rattle.eval_rules.specs.Jumps.{is_passed, run, sought_after}

-- nothing that a key may make final differs: neither what is collected nor which keys are final
abbrev pub Same : Scene → Scene → Type 0
Same s t = t ≡ record s { state = record s.state { selected = t.state.selected; result = t.state.result; env = t.state.env }; notes = t.notes; ran = t.ran }

through : (s t u : Scene) → Same s t → Same t u → Same s u
through s t u h k = k ∙ ap (λ (x : Scene). record x { state = record x.state { selected = u.state.selected; result = u.state.result; env = u.state.env }; notes = u.notes; ran = u.ran }) h

same_at : (k : FinalKey) (s t : Scene) → Same s t → SameAt k s t
same_at key.Owner s t h = ap (λ (x : Scene). x.owner) h
same_at key.Group s t h = ap (λ (x : Scene). x.group) h
same_at key.Mode s t h = ap (λ (x : Scene). x.mode) h
same_at key.Name s t h = ap (λ (x : Scene). x.state.name) h
same_at key.Symlink s t h = ap (λ (x : Scene). x.state.links) h
same_at key.Run s t h = (ap (λ (x : Scene). x.runs) h, ap (λ (x : Scene). x.made) h)
same_at key.Priority s t h = ap (λ (x : Scene). x.priority) h
same_at key.Watch s t h = ap (λ (x : Scene). x.watch) h

keeps : (k : FinalKey) (s t : Scene) → Same s t → is_final s.finals k ≡ true → Keeps k s t
keeps k s t h f = record { same = same_at k s t h; stays = ap (λ (x : Scene). is_final x.finals k) h ∙ f }

both : (k : FinalKey) (s t u : Scene) → Keeps k s t → Keeps k t u → Keeps k s u
both k s t u a b = record { same = kept.through (value k) s t u a.same b.same; stays = b.stays }

-- ---- what acts

chosen : (s t u : Scene) (a b c : Bool) → Same s t → Same s u → Same s (cond {A = Scene × Bool} c (t, a) (u, b)).0
chosen s t u a b true h k = h
chosen s t u a b false h k = k

on_text_same : (act : Text → Scene → Scene × Bool) → ((t : Text) (s : Scene) → Same s (act t s).0) → (text : Rendered) (s : Scene) → Same s (on_text act text s).0
on_text_same act h (rendered.Text t) s = h t s
on_text_same act h rendered.TooLong s = refl

test_at_same : (place : Option ℕ) (r : Rule) (name t : Text) (s : Scene) → Same s (tested_at place r name t s).0
test_at_same None r name t s = chosen s s (noted r TestNotMade t s) true false (is_there s.state.event (place_of s.state.event.device t)) refl refl
test_at_same (Some place) r name t s = refl

test_here_same : (r : Rule) (t : Text) (s : Scene) → Same s (tested_here r t s).0
test_here_same r t s = by (is_somewhere s.state.event s.state.event.device t) (is_not_read t s.state.event)
  where
    by : (found unread : Bool) → Same s (cond {A = Scene × Bool} found (s, true) (cond {A = Scene × Bool} unread (noted r TestNotMade t s, false) (s, false))).0
    by true unread = refl
    by false true = refl
    by false false = refl

test_udev_same : (is : Option NamedValue) (r : Rule) (t : Text) (s : Scene) → Same s (tested_by_udev is r t s).0
test_udev_same None r t s = test_here_same r t s
test_udev_same (Some is) r t s = test_at_same (named_place is s.state.event) r is.attribute t s

test_by_same : (profile : Profile) (r : Rule) (t : Text) (s : Scene) → Same s (tested_by profile r t s).0
test_by_same Manual r t s = refl
test_by_same Udev r t s = test_udev_same (named t) r t s

tested_same : (r : Rule) (mask : Option Text) (t : Text) (s : Scene) → Same s (tested r mask t s).0
tested_same r mask t s = by (is_some mask || begins_with slash t)
  where
    by : (b : Bool) → Same s (cond {A = Scene × Bool} b (noted r TestNotMade t s, false) (tested_by s.state.event.profile r t s)).0
    by true = refl
    by false = test_by_same s.state.event.profile r t s

answered_same : (r : Rule) (t : Text) (a : Option AnswerValue) (s : Scene) → Same s (answered_or_noted r t a s).0
answered_same r t None s = refl
answered_same r t (Some a) s = chosen s (with_result (result_of s.state.event.profile a.text) s) s true false _ refl refl

need_same : (r : Rule) (name : Text) (needs : List Text) (s : Scene) → Same s (needs_noted r name needs s)
need_same r name [] s = refl
need_same r name (need ∷ needs) s = refl

outcome_same : (r : Rule) (name : Text) (o : OutcomeValue) (properties : List Pair) (s : Scene) → Same s (outcome_set r name o properties s).0
outcome_same r name o properties s = by (nat_le (properties_size o.properties) most_set)
  where
    set : Scene
    set = with_env (properties_set s.state.env properties) s

    by : (b : Bool) → Same s (cond {A = Scene × Bool} b (needs_noted r name o.needs set, o.is_done) (noted r TextTooLong name s, false)).0
    by true = need_same r name o.needs set
    by false = refl

taken_same : (r : Rule) (name : Text) (o : OutcomeValue) (s : Scene) → Same s (outcome_taken r name o s).0
taken_same r name o s = outcome_same r name o o.properties s

usb_same : (known : Known) (ran : Option Bool) (r : Rule) (s : Scene) → Same s (usb_id_run known ran r s).0
usb_same known None r s = through s _ _ (taken_same r (builtin_name UsbId) (known.usb_id s.state.event (is_some (value_of s.state.env (codes "ID_BUS")))) s) refl
usb_same known (Some done) r s = refl

path_same : (known : Known) (ran : Option Bool) (r : Rule) (s : Scene) → Same s (path_id_run known ran r s).0
path_same known None r s = through s _ _ (taken_same r (builtin_name PathId) (known.path_id s.state.event) s) refl
path_same known (Some done) r s = refl

printed_same : (r : Rule) (kind : NoteKind) (t : Text) (a : Option AnswerValue) (s : Scene) → Same s (from_answer_or_noted r kind t a s).0
printed_same r kind t None s = refl
printed_same r kind t (Some a) s = chosen s (with_env (properties_set s.state.env (printed_properties a.text)) s) s true false _ refl refl

builtin_same : (known : Known) (r : Rule) (t : Text) (b : Builtin) (s : Scene) → Same s (builtin_run known r t b s).0
builtin_same known r t (builtin.Hwdb h) s =
    let properties : List Pair = found known h s.state in
    need_same r (codes "hwdb") (lookup_needs s.state.event.profile s.state h properties) (taken properties s).0
builtin_same known r t builtin.InputId s = taken_same r (builtin_name InputId) (known.input_id s.state.event) s
builtin_same known r t builtin.NetId s =
    let names : OutcomeValue = known.net_id s.state.event s.state.env in
    outcome_same r (builtin_name NetId) names (with_maker (looked_up known (known.net_lookup s.state.event s.state.env)) names.properties) s
builtin_same known r t builtin.NetSetupLink s = taken_same r (builtin_name NetSetupLink) (known.net_setup_link s.state.event s.state.env) s
builtin_same known r t builtin.PathId s = path_same known s.ran.path_id r s
builtin_same known r t builtin.UsbId s = usb_same known s.ran.usb_id r s
builtin_same known r t builtin.SetsNothing s = refl
builtin_same known r t builtin.Fails s = refl
builtin_same known r t (builtin.Answered name) s = printed_same r BuiltinNotRun name (value_of s.state.event.programs (builtin_question t)) s
builtin_same known r t (builtin.Other name) s = refl
builtin_same known r t builtin.BadArguments s = refl

parent_same : (names : List (List Item)) (d : Option DeviceValue) (s : Scene) → Same s (from_parent names d s).0
parent_same names None s = refl
parent_same names (Some d) s = refl

given_same : (name : Text) (given : Option Text) (s : Scene) → Same s (name_given name given s).0
given_same name None s = refl
given_same name (Some text) s = refl

part_same : (r : Rule) (name : Text) (given : Option Text) (s : Scene) → Same s (from_part r name given s).0
part_same r name None s = refl
part_same r name (Some found) s = given_same name (Some found) s

line_same : (r : Rule) (name : Text) (line part : Option Text) (s : Scene) → Same s (from_line r name line part s).0
line_same r name None part s = part_same r name (option_and_then (cmdline_value name) part) s
line_same r name (Some line) part s = given_same name (cmdline_value name line) s

stored_same : (r : Rule) (name : Text) (s : Scene) → Same s (from_stored r name s).0
stored_same r name s = by (is_stored_known s.state.event)
  where
    by : (b : Bool) → Same s (cond b (name_given name (stored_value name s.state.event) s) (not_run r Db s)).0
    by true = given_same name (stored_value name s.state.event) s
    by false = refl

built_same : (known : Known) (r : Rule) (text : Rendered) (s : Scene) → Same s (on_text (run_builtin known r) text s).0
built_same known r text s = on_text_same (run_builtin known r) (λ c u. builtin_same known r c _ u) text s

found_same : (r : Rule) (found : Option RootFile) (s : Scene) → Same s (from_found r found s).0
found_same r None s = refl
found_same r (Some Absent) s = refl
found_same r (Some (Read bytes)) s =
    chosen s (with_env (properties_set s.state.env (file_properties bytes)) s) (noted r ImportNotRun (import_name File) s) true false (nat_le (length bytes) most_set) refl refl

imported_same : (profile : Profile) (known : Known) (r : Rule) (i : Import) (s : Scene) → Same s (imported profile known r i s).0
imported_same Manual known r (import.Builtin t) s = built_same known r _ s
imported_same Udev known r (import.Builtin t) s = built_same known r _ s
imported_same Manual known r (import.Parent names text) s = parent_same names (device_at s.state.event 1) s
imported_same Udev known r (import.Parent names text) s =
    on_text_same from_parent_by (λ found u. parent_same (fnmatch_items Exact found 0 ∷ []) (device_at u.state.event 1) u) (names_text text s.state) s
imported_same Manual known r (import.Program t) s = refl
imported_same Udev known r (import.Program t) s =
    on_text_same (from_program r) (λ c u. printed_same r NoAnswer c (value_of u.state.event.programs c) u) (import_text most_command_bytes t s.state) s
imported_same Manual known r (import.File t) s = refl
imported_same Udev known r (import.File t) s = on_text_same (from_file known r) (λ path u. found_same r (known.file path) u) (import_text most_path_bytes t s.state) s
imported_same Manual known r (import.Cmdline name) s = refl
imported_same Udev known r (import.Cmdline name) s = line_same r name (words_for (codes "cmdline") name s.state.event) (words_for (codes "cmdline.part") name s.state.event) s
imported_same Manual known r (import.Db name) s = refl
imported_same Udev known r (import.Db name) s = stored_same r name s

command_same : (p : Profile) (r : Rule) (t : Parts) (s : Scene) → Same s (command_reached p r t s)
command_same Manual r t s = refl
command_same Udev r t s = refl

import_reached_same : (p : Profile) (r : Rule) (i : Import) (s : Scene) → Same s (import_reached p r i s)
import_reached_same p r (import.Builtin t) s = command_same p r t s
import_reached_same p r i s = refl

performed_same : (known : Known) (r : Rule) (d : ActKind) (s : Scene) → Same s (performed known r d s).0
performed_same known r (act_kind.Test mask t) s = on_text_same (tested r mask) (tested_same r mask) _ s
performed_same known r (act_kind.Program t) s =
    let text : Rendered = program_text t s.state in
    through s (with_result [] s) (on_text (answered_by_block r) text (with_result [] s)).0 refl
    (on_text_same (answered_by_block r) (λ c u. answered_same r c (value_of u.state.event.programs c) u) text (with_result [] s))
performed_same known r (act_kind.Import i) s =
    let reached : Scene = import_reached s.state.event.profile r i s in
    through s reached (imported s.state.event.profile known r i reached).0 (import_reached_same s.state.event.profile r i s) (imported_same s.state.event.profile known r i reached)

late_same : (r : Rule) (d : ActKind) (done : Option Bool) (s t : Scene) → Same s t → Same s (too_long_noted r d done t)
late_same r d None s t h = through s t (too_long_noted r d None t) h refl
late_same r d (Some done) s t h = h

act_same : (known : Known) (r : Rule) (act : Act) (s : Scene) → Same s (act_step known r act s).0
unfolding act_step
act_same known r act s = late_same r act.kind (performed known r act.kind s).1 s (performed known r act.kind s).0 (performed_same known r act.kind s)

-- ---- matches

reached_same : (r : Rule) (k : PlainKey) (s : Scene) → Same s (match_reached r k s)
reached_same r (plain.Sysctl name) s = refl
reached_same r (plain.Attr name) s = by (is_not_read name s.state.event)
  where
    by : (b : Bool) → Same s (cond b (noted r AttributeNotRead name s) s)
    by true = refl
    by false = refl
reached_same r (plain.Const name) s = by (is_not_given name s.state.event)
  where
    by : (b : Bool) → Same s (cond b (noted r ConstantNotGiven name s) s)
    by true = refl
    by false = refl
reached_same r k s = refl

plain_same : (r : Rule) (part : PlainMatch) (s : Scene) → Same s (plain_step r part s).0
unfolding plain_step
plain_same r part s = reached_same r part.key s

result_same : (part : Comparison) (s : Scene) → Same s (result_step part s).0
unfolding result_step
result_same part s = refl

search_same : (parts : List UpMatch) (s : Scene) → Same s (search parts s).0
search_same [] s = refl
search_same (part ∷ parts) s = refl

-- ---- steps, and rules one after another

if_proceeding_same : (f : Scene → Went) → ((s : Scene) → Same s (f s).0) → (s : Scene) (w : Went) → Same s w.0 → Same s (if_proceeding f w).0
if_proceeding_same f h s w k = by w.1
  where
    by : (b : Bool) → Same s (cond b (f w.0) w).0
    by true = through s w.0 (f w.0).0 k (h w.0)
    by false = k

walk_same : {P : Type 0} (step : P → Scene → Went) → ((p : P) (s : Scene) → Same s (step p s).0) → (ps : List P) (s : Scene) → Same s (walk step ps s).0
unfolding walk
walk_same step h [] s = refl
walk_same step h (p ∷ ps) s = if_proceeding_same (walk step ps) (walk_same step h ps) s (step p s) (h p s)

-- the scene before a rule's assignments
pub before_same : (known : Known) (r : Rule) (s : Scene) → Same s (before_sets known r s).0
before_same known r s =
    if_proceeding_same (walk result_step r.results) (walk_same result_step result_same r.results) s _
    (if_proceeding_same (walk (act_step known r) r.acts) (walk_same (act_step known r) (act_same known r) r.acts) s _
    (if_proceeding_same (search r.up) (search_same r.up) s _
    (walk_same (plain_step r) (plain_same r) r.plain s)))

module _ (known : Known) (r : Rule) where
  -- a rule leaves the event as it is
  pub steps_event : (s : Scene) → (steps known r s).0.state.event ≡ s.state.event
  unfolding steps
  steps_event s = by (before_sets known r s).1
    where
      before : (before_sets known r s).0.state.event ≡ s.state.event
      before = ap (λ (x : Scene). x.state.event) (before_same known r s)

      by : (b : Bool) → (cond b (set_all r (before_sets known r s).0) (before_sets known r s)).0.state.event ≡ s.state.event
      by true = fold_event r r.sets (before_sets known r s).0 ∙ before
      by false = before

  apply_event : (s : Scene) → (apply known r s).0.state.event ≡ s.state.event
  unfolding apply
  apply_event s = by (is_idle r s.state.event)
    where
      by : (b : Bool) → (cond b (only_noted known r s) (steps known r s)).0.state.event ≡ s.state.event
      by true = refl
      by false = steps_event s

  steps_keeps : (k : FinalKey) (s : Scene) → Lasts k s → is_final s.finals k ≡ true → Keeps k s (steps known r s).0
  unfolding steps
  steps_keeps k s lasts f = by (before_sets known r s).1
    where
      t : Scene
      t = (before_sets known r s).0

      held : Keeps k s t
      held = keeps k s t (before_same known r s) f

      by : (b : Bool) → Keeps k s (cond b (set_all r t) (before_sets known r s)).0
      by true = both k s t (fold (set_step r) t r.sets) held (fold_keeps k r r.sets t (lasts_on k s t (ap (λ (x : Scene). x.state.event) (before_same known r s)) lasts) held.stays)
      by false = held

  apply_keeps : (k : FinalKey) (s : Scene) → Lasts k s → is_final s.finals k ≡ true → Keeps k s (apply known r s).0
  unfolding apply
  apply_keeps k s lasts f = by (is_idle r s.state.event)
    where
      by : (b : Bool) → Keeps k s (cond b (only_noted known r s) (steps known r s)).0
      by true = record { same = same_notes (value k) s _; stays = f }
      by false = steps_keeps k s lasts f

pub run_keeps : (known : Known) (sought : Option Text) (rules : List Rule) (k : FinalKey) (s : Scene) → Lasts k s → is_final s.finals k ≡ true → Keeps k s (run known sought rules s)
unfolding run
run_keeps known sought [] k s lasts f = record { same = itself (value k) s; stays = f }
run_keeps known sought (r ∷ rs) k s lasts f =
    by (is_passed sought r) (run_keeps known sought rs k s lasts f) (both k s t (run known next rs t) held (run_keeps known next rs k t (lasts_on k s t (apply_event known r s) lasts) held.stays))
  where
    t : Scene
    t = (apply known r s).0

    held : Keeps k s t
    held = apply_keeps known r k s lasts f

    next : Option Text
    next = sought_after (apply known r s).1 r

    by : (b : Bool) → Keeps k s (run known sought rs s) → Keeps k s (run known next rs t) → Keeps k s (cond b (run known sought rs s) (run known next rs t))
    by true x y = x
    by false x y = y
