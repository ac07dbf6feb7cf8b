-- What an event says of itself stays, whatever acts do.
use Rattle.std.proofs.Common.{◌≡◌, ◌==◌, ◌||◌, ℕ, Bool, true, false, cond, List, [], ◌∷◌, length, Option, Some, None, is_some, refl, nat_le, codes, ◌∙◌}
use Rattle.std.specs.Option.{option_and_then}
use Rattle.text_bytes.specs.Names.{slash}
use Rattle.text_bytes.specs.Texts.{begins_with}
use Rattle.text_bytes.specs.declared.profile.Profile.{Profile}
use Rattle.text_bytes.specs.declared.profile.Profile.TheVariants.{Manual, Udev}
use Rattle.text_core.specs.Fnmatch.{fnmatch_items}
use Rattle.text_core.specs.declared.reading.Reading.TheVariants.{Exact}
use Rattle.text_bytes.specs.Text.{Text}
use Rattle.text_tables.specs.Pairs.{Pair, value_of}
use Rattle.builtin_devices.specs.Knowledge.{Known}
use Rattle.builtin_devices.specs.declared.root_files.RootFile.{RootFile}
use Rattle.builtin_devices.specs.declared.root_files.RootFile.TheVariants.{Absent, Read}
use Rattle.device_core.specs.Values.{AnswerValue, DeviceValue}
use Rattle.rule_tokens.specs.Template.{Parts}
use Rattle.rule_types.specs.declared.part.ActKind.{ActKind}
use Rattle.rule_types.specs.declared.part.ActKind.TheVariants as act_kind
use Rattle.rule_types.specs.declared.part.Import.{Import}
use Rattle.rule_types.specs.declared.part.Import.TheVariants as import
use Rattle.rule_types.specs.declared.types.ImportType.TheVariants.{Db, File}
use Rattle.rule_types.specs.Rules.{Rule}
use Rattle.eval_rendering.specs.declared.rendered.Rendered.{Rendered}
use Rattle.eval_rendering.specs.declared.rendered.Rendered.TheVariants as rendered
use Rattle.builtin_devices.specs.Outcomes.{OutcomeValue}
use Rattle.rule_types.specs.Builtins.{builtin_name}
use Rattle.rule_types.specs.declared.builtins.Builtin.TheVariants.{InputId, NetId, NetSetupLink, PathId, UsbId}
use Rattle.eval_commands.specs.Builtins.{builtin_question}
use Rattle.eval_commands.specs.Cmdline.{cmdline_value}
use Rattle.eval_commands.specs.declared.builtin.Builtin.{Builtin}
use Rattle.eval_commands.specs.declared.builtin.Builtin.TheVariants as builtin
use Rattle.eval_rendering.specs.Attributes.{is_not_read}
use Rattle.eval_state.specs.Chains.{device_at}
use Rattle.eval_state.specs.Places.{is_there, place_of}
use Rattle.eval_state.specs.Named.{NamedValue, named, named_place}
use Rattle.eval_state.specs.Properties.{properties_set}
use Rattle.eval_state.specs.Scenes.{noted, with_env}
use Rattle.eval_state.specs.declared.note_kind.NoteKind.{NoteKind}
use Rattle.eval_state.specs.declared.note_kind.NoteKind.TheVariants.{BuiltinNotRun, NoAnswer, TestNotMade, TextTooLong}
use Rattle.eval_state.specs.declared.scene.Scene.{Scene}
use Rattle.eval_acts.specs.Acts.{command_reached, from_parent_by, import_reached, imported, on_text, performed, too_long_noted}
use Rattle.eval_acts.specs.BuiltinRuns.{looked_up, most_set, needs_noted, outcome_set, outcome_taken, path_id_run, properties_size, usb_id_run, with_maker}
use Rattle.eval_acts.specs.RootImports.{file_properties, from_file, from_found}
use Rattle.eval_acts.specs.Stored.{from_stored, is_stored_known, stored_value}
use Rattle.eval_acts.specs.Imports.{builtin_run, from_answer_or_noted, from_line, from_parent, from_part, from_program, name_given, not_run, run_builtin, taken, words_for}
use Rattle.eval_commands.specs.LookUpNeeds.{lookup_needs}
use Rattle.eval_commands.specs.LookUps.{found}
use Rattle.eval_acts.specs.Printed.{printed_properties}
use Rattle.eval_acts.specs.Questions.{answered_by_block, answered_or_noted, is_somewhere, result_of, tested, tested_at, tested_by, tested_by_udev, tested_here, with_result}

-- a scene has the event of another
abbrev pub Stays : Scene → Scene → Type 0
Stays s t = t.state.event ≡ s.state.event

either : (s : Scene) (c : Bool) (x y : Scene × Bool) → Stays s x.0 → Stays s y.0 → Stays s (cond c x y).0
either s true x y h k = h
either s false x y h k = k

text_stays : (act : Text → Scene → Scene × Bool) → ((t : Text) (s : Scene) → Stays s (act t s).0) → (text : Rendered) (s : Scene) → Stays s (on_text act text s).0
text_stays act h (rendered.Text t) s = h t s
text_stays act h rendered.TooLong s = refl

at_stays : (place : Option ℕ) (r : Rule) (name path : Text) (s : Scene) → Stays s (tested_at place r name path s).0
at_stays None r name path s = either s (is_there s.state.event (place_of s.state.event.device path)) (s, true) (noted r TestNotMade path s, false) refl refl
at_stays (Some place) r name path s = refl

here_stays : (r : Rule) (path : Text) (s : Scene) → Stays s (tested_here r path s).0
here_stays r path s =
    either s (is_somewhere s.state.event s.state.event.device path) (s, true) (cond {A = Scene × Bool} (is_not_read path s.state.event) (noted r TestNotMade path s, false) (s, false)) refl
    (either s (is_not_read path s.state.event) (noted r TestNotMade path s, false) (s, false) refl refl)

named_stays : (n : Option NamedValue) (r : Rule) (path : Text) (s : Scene) → Stays s (tested_by_udev n r path s).0
named_stays None r path s = here_stays r path s
named_stays (Some n) r path s = at_stays (named_place n s.state.event) r n.attribute path s

by_stays : (p : Profile) (r : Rule) (path : Text) (s : Scene) → Stays s (tested_by p r path s).0
by_stays Manual r path s = refl
by_stays Udev r path s = named_stays (named path) r path s

tested_stays : (r : Rule) (mask : Option Text) (t : Text) (s : Scene) → Stays s (tested r mask t s).0
tested_stays r mask t s = either s (is_some mask || begins_with slash t) (noted r TestNotMade t s, false) (tested_by s.state.event.profile r t s) refl (by_stays s.state.event.profile r t s)

answered_stays : (r : Rule) (t : Text) (a : Option AnswerValue) (s : Scene) → Stays s (answered_or_noted r t a s).0
answered_stays r t None s = refl
answered_stays r t (Some a) s = either s (a.status == 0) (with_result (result_of s.state.event.profile a.text) s, true) (s, false) refl refl

need_stays : (r : Rule) (name : Text) (needs : List Text) (s : Scene) → Stays s (needs_noted r name needs s)
need_stays r name [] s = refl
need_stays r name (need ∷ needs) s = refl

outcome_stays : (r : Rule) (name : Text) (o : OutcomeValue) (properties : List Pair) (s : Scene) → Stays s (outcome_set r name o properties s).0
outcome_stays r name o properties s =
    let set : Scene = with_env (properties_set s.state.env properties) s in
    either s (nat_le (properties_size o.properties) most_set) (needs_noted r name o.needs set, o.is_done) (noted r TextTooLong name s, false) (need_stays r name o.needs set) refl

taken_stays : (r : Rule) (name : Text) (o : OutcomeValue) (s : Scene) → Stays s (outcome_taken r name o s).0
taken_stays r name o s = outcome_stays r name o o.properties s

usb_stays : (known : Known) (ran : Option Bool) (r : Rule) (s : Scene) → Stays s (usb_id_run known ran r s).0
usb_stays known None r s = taken_stays r (builtin_name UsbId) (known.usb_id s.state.event (is_some (value_of s.state.env (codes "ID_BUS")))) s
usb_stays known (Some done) r s = refl

path_stays : (known : Known) (ran : Option Bool) (r : Rule) (s : Scene) → Stays s (path_id_run known ran r s).0
path_stays known None r s = taken_stays r (builtin_name PathId) (known.path_id s.state.event) s
path_stays known (Some done) r s = refl

printed_stays : (r : Rule) (kind : NoteKind) (t : Text) (a : Option AnswerValue) (s : Scene) → Stays s (from_answer_or_noted r kind t a s).0
printed_stays r kind t None s = refl
printed_stays r kind t (Some a) s = either s (a.status == 0) (with_env (properties_set s.state.env (printed_properties a.text)) s, true) (s, false) refl refl

builtin_stays : (known : Known) (r : Rule) (t : Text) (b : Builtin) (s : Scene) → Stays s (builtin_run known r t b s).0
builtin_stays known r t (builtin.Hwdb h) s =
    let properties : List Pair = found known h s.state in
    need_stays r (codes "hwdb") (lookup_needs s.state.event.profile s.state h properties) (taken properties s).0
builtin_stays known r t builtin.InputId s = taken_stays r (builtin_name InputId) (known.input_id s.state.event) s
builtin_stays known r t builtin.NetId s =
    let names : OutcomeValue = known.net_id s.state.event s.state.env in
    outcome_stays r (builtin_name NetId) names (with_maker (looked_up known (known.net_lookup s.state.event s.state.env)) names.properties) s
builtin_stays known r t builtin.NetSetupLink s = taken_stays r (builtin_name NetSetupLink) (known.net_setup_link s.state.event s.state.env) s
builtin_stays known r t builtin.PathId s = path_stays known s.ran.path_id r s
builtin_stays known r t builtin.UsbId s = usb_stays known s.ran.usb_id r s
builtin_stays known r t builtin.SetsNothing s = refl
builtin_stays known r t builtin.Fails s = refl
builtin_stays known r t (builtin.Answered name) s = printed_stays r BuiltinNotRun name (value_of s.state.event.programs (builtin_question t)) s
builtin_stays known r t (builtin.Other name) s = refl
builtin_stays known r t builtin.BadArguments s = refl

parent_stays : (names : _) (d : Option DeviceValue) (s : Scene) → Stays s (from_parent names d s).0
parent_stays names None s = refl
parent_stays names (Some d) s = refl

built_stays : (known : Known) (r : Rule) (text : Rendered) (s : Scene) → Stays s (on_text (run_builtin known r) text s).0
built_stays known r text s = text_stays (run_builtin known r) (λ c u. builtin_stays known r c _ u) text s

given_stays : (name : Text) (value : Option Text) (s : Scene) → Stays s (name_given name value s).0
given_stays name None s = refl
given_stays name (Some value) s = refl

part_stays : (r : Rule) (name : Text) (given : Option Text) (s : Scene) → Stays s (from_part r name given s).0
part_stays r name None s = refl
part_stays r name (Some value) s = refl

line_stays : (r : Rule) (name : Text) (line part : Option Text) (s : Scene) → Stays s (from_line r name line part s).0
line_stays r name None part s = part_stays r name (option_and_then (cmdline_value name) part) s
line_stays r name (Some line) part s = given_stays name (cmdline_value name line) s

stored_stays : (r : Rule) (name : Text) (s : Scene) → Stays s (from_stored r name s).0
stored_stays r name s = by (is_stored_known s.state.event)
  where
    by : (b : Bool) → Stays s (cond b (name_given name (stored_value name s.state.event) s) (not_run r Db s)).0
    by true = given_stays name (stored_value name s.state.event) s
    by false = refl

found_stays : (r : Rule) (found : Option RootFile) (s : Scene) → Stays s (from_found r found s).0
found_stays r None s = refl
found_stays r (Some Absent) s = refl
found_stays r (Some (Read bytes)) s =
    either s (nat_le (length bytes) most_set) (with_env (properties_set s.state.env (file_properties bytes)) s, true) (not_run r File s) refl refl

imported_stays : (p : Profile) (known : Known) (r : Rule) (i : Import) (s : Scene) → Stays s (imported p known r i s).0
imported_stays Manual known r (import.Builtin t) s = built_stays known r _ s
imported_stays Udev known r (import.Builtin t) s = built_stays known r _ s
imported_stays Manual known r (import.Parent names text) s = parent_stays names _ s
imported_stays Udev known r (import.Parent names text) s = text_stays from_parent_by (λ t u. parent_stays (fnmatch_items Exact t 0 ∷ []) (device_at u.state.event 1) u) _ s
imported_stays Manual known r (import.Program t) s = refl
imported_stays Udev known r (import.Program t) s = text_stays (from_program r) (λ c u. printed_stays r NoAnswer c (value_of u.state.event.programs c) u) _ s
imported_stays Manual known r (import.File t) s = refl
imported_stays Udev known r (import.File t) s = text_stays (from_file known r) (λ path u. found_stays r (known.file path) u) _ s
imported_stays Manual known r (import.Cmdline name) s = refl
imported_stays Udev known r (import.Cmdline name) s = line_stays r name (words_for (codes "cmdline") name s.state.event) (words_for (codes "cmdline.part") name s.state.event) s
imported_stays Manual known r (import.Db name) s = refl
imported_stays Udev known r (import.Db name) s = stored_stays r name s

command_stays : (p : Profile) (r : Rule) (t : Parts) (s : Scene) → Stays s (command_reached p r t s)
command_stays Manual r t s = refl
command_stays Udev r t s = refl

reached_import_stays : (p : Profile) (r : Rule) (i : Import) (s : Scene) → Stays s (import_reached p r i s)
reached_import_stays p r (import.Builtin t) s = command_stays p r t s
reached_import_stays p r i s = refl

-- what an act does
pub performed_stays : (known : Known) (r : Rule) (d : ActKind) (s : Scene) → Stays s (performed known r d s).0
performed_stays known r (act_kind.Test mask t) s = text_stays (tested r mask) (tested_stays r mask) _ s
performed_stays known r (act_kind.Program t) s = text_stays (answered_by_block r) (λ c u. answered_stays r c (value_of u.state.event.programs c) u) _ (with_result [] s)
performed_stays known r (act_kind.Import i) s =
    imported_stays s.state.event.profile known r i (import_reached s.state.event.profile r i s) ∙ reached_import_stays s.state.event.profile r i s

-- a note on its text
pub late_stays : (r : Rule) (d : ActKind) (done : Option Bool) (s t : Scene) → Stays s t → Stays s (too_long_noted r d done t)
late_stays r d None s t h = h
late_stays r d (Some done) s t h = h
