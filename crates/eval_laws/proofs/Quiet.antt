-- What leaves no note that a command has no answer, by the manual.
use Rattle.std.proofs.Common.{◌≡◌, ◌==◌, ◌||◌, ℕ, Bool, true, false, cond, List, [], ◌∷◌, ◌++◌, Option, Some, None, is_some, codes, nat_le, append-nil, refl, ap, sym, subst, ◌∙◌}
use Rattle.std.specs.List.{filter, fold}
use Rattle.std.proofs.lemmas.List.Elements.{filter-append}
use Rattle.text_bytes.specs.Names.{slash}
use Rattle.text_bytes.specs.Texts.{begins_with}
use Rattle.text_bytes.specs.declared.profile.Profile.{Profile}
use Rattle.text_bytes.specs.declared.profile.Profile.TheVariants.{Manual, Udev}
use Rattle.text_bytes.specs.Text.{Text}
use Rattle.text_tables.specs.Pairs.{Pair, value_of}
use Rattle.builtin_devices.specs.Knowledge.{Known}
use Rattle.builtin_devices.specs.Outcomes.{OutcomeValue}
use Rattle.device_core.specs.Values.{AnswerValue, DeviceValue, EventValue}
use Rattle.rule_types.specs.Builtins.{builtin_name}
use Rattle.rule_types.specs.declared.builtins.Builtin.TheVariants.{InputId, NetId, NetSetupLink, PathId, UsbId}
use Rattle.rule_types.specs.Names.{import_name}
use Rattle.rule_types.specs.Written.{attribute_of_target, key_of_target}
use Rattle.rule_types.specs.WrittenParts.{attribute_of_act_kind, key_of_act_kind}
use Rattle.rule_types.specs.declared.keys.Key.TheVariants as key
use Rattle.rule_types.specs.declared.roles.AssignOperator.{AssignOperator}
use Rattle.rule_types.specs.declared.roles.AssignOperator.TheVariants.{Add, AssignFinal}
use Rattle.rule_types.specs.declared.roles.PlainKey.{PlainKey}
use Rattle.rule_types.specs.declared.roles.PlainKey.TheVariants as plain
use Rattle.rule_types.specs.declared.roles.Target.{Target}
use Rattle.rule_types.specs.declared.roles.Target.TheVariants as target
use Rattle.rule_types.specs.declared.rule_option.RuleOption.{RuleOption}
use Rattle.rule_types.specs.declared.rule_option.RuleOption.TheVariants as option
use Rattle.rule_types.specs.declared.part.Assignment.{Assignment}
use Rattle.rule_types.specs.declared.part.Change.{Change}
use Rattle.rule_types.specs.declared.part.Change.TheVariants as change
use Rattle.rule_types.specs.declared.part.Comparison.{Comparison}
use Rattle.rule_types.specs.declared.part.ActKind.{ActKind}
use Rattle.rule_types.specs.declared.part.Import.{Import}
use Rattle.rule_types.specs.declared.part.Import.TheVariants as import
use Rattle.rule_types.specs.declared.types.ImportType.TheVariants as import_of
use Rattle.rule_types.specs.declared.part.PlainMatch.{PlainMatch}
use Rattle.rule_types.specs.declared.part.UpMatch.{UpMatch}
use Rattle.rule_types.specs.Rules.{Rule}
use Rattle.eval_rendering.specs.declared.rendered.Rendered.{Rendered}
use Rattle.eval_rendering.specs.declared.rendered.Rendered.TheVariants as rendered
use Rattle.eval_state.specs.Chains.{device_at}
use Rattle.eval_state.specs.Places.{is_there, place_of}
use Rattle.eval_state.specs.Named.{NamedValue, named, named_place}
use Rattle.eval_state.specs.Notes.{note_about, word_of_key}
use Rattle.eval_state.specs.Properties.{properties_set}
use Rattle.eval_state.specs.Runs.{runs_after}
use Rattle.eval_state.specs.Scenes.{noted, with_env}
use Rattle.eval_state.specs.declared.finals.FinalKey.{FinalKey}
use Rattle.eval_state.specs.declared.finals.FinalKey.TheVariants as final
use Rattle.eval_state.specs.declared.note_kind.NoteKind.{NoteKind}
use Rattle.eval_state.specs.declared.note_kind.NoteKind.TheVariants.{AttributeNotRead, BadHwdbArguments, BuiltinNeeds, BuiltinNotRun, ConstantNotGiven, ImportNotRun, NameIgnored, SysctlNotRead, TestNotMade, TextTooLong}
use Rattle.eval_state.specs.declared.scene.Scene.{Scene}
use Rattle.eval_acts.specs.Acts.{imported, on_text}
use Rattle.eval_acts.specs.Inner.{left}
use Rattle.eval_acts.specs.BuiltinRuns.{looked_up, most_set, needs_noted, needs_word, outcome_set, outcome_taken, path_id_run, properties_size, usb_id_run, with_maker}
use Rattle.eval_commands.specs.LookUpNeeds.{lookup_needs}
use Rattle.eval_commands.specs.LookUps.{found}
use Rattle.eval_acts.specs.Imports.{builtin_run, from_answer_or_noted, from_parent, run_builtin, taken}
use Rattle.eval_acts.specs.Printed.{printed_properties}
use Rattle.eval_commands.specs.Builtins.{builtin_question}
use Rattle.eval_acts.specs.Questions.{is_somewhere, tested, tested_at, tested_by, tested_by_udev, tested_here}
use Rattle.eval_acts.specs.Reaching.{match_reached}
use Rattle.eval_commands.specs.declared.builtin.Builtin.{Builtin}
use Rattle.eval_commands.specs.declared.builtin.Builtin.TheVariants as builtin
use Rattle.eval_rendering.specs.Attributes.{is_not_read}
use Rattle.eval_rendering.specs.Subjects.{is_not_given}
use Rattle.eval_assignments.specs.Assigning.{assigned, with_option}
use Rattle.eval_assignments.specs.Escapes.{escape_of}
use Rattle.eval_assignments.specs.Finality.{final_key, final_target, finally, is_settled}
use Rattle.eval_assignments.specs.Inner.{given_by}
use Rattle.eval_assignments.specs.Properties.{property_added, property_changed, property_joined}
use Rattle.eval_assignments.specs.Runs.{run_of}
use Rattle.eval_assignments.specs.Steps.{is_ignored, set_step, step_by, text_given, text_set}
use Rattle.eval_assignments.proofs.Staying.{set_stays}
use Rattle.eval_rules.specs.Steps.{Went, if_proceeding, plain_step, result_step, search, walk}
use Rattle.eval_courses.specs.Courses.{searched}
use Rattle.eval_laws.specs.Noted.{is_no_answer, says_no_answer}

abbrev pub Quiet : Scene → Scene → Type 0
Quiet s t = filter is_no_answer t.notes ≡ filter is_no_answer s.notes

note_quiet : (r : Rule) (kind : NoteKind) (text : Text) (s : Scene) → says_no_answer kind ≡ false → Quiet s (noted r kind text s)
note_quiet r kind text s h =
    filter-append is_no_answer s.notes (note_about r kind text ∷ [])
    ∙ ap (λ b. filter is_no_answer s.notes ++ cond b (note_about r kind text ∷ []) []) h
    ∙ append-nil (filter is_no_answer s.notes)

either : (s : Scene) (c : Bool) (x y : Scene × Bool) → Quiet s x.0 → Quiet s y.0 → Quiet s (cond c x y).0
either s true x y h k = h
either s false x y h k = k

-- ---- acts

pub text_quiet : (r : Rule) (d : ActKind) (act : Text → Scene → Scene × Bool) → ((t : Text) (s : Scene) → Quiet s (act t s).0) → (text : Rendered) (s : Scene) → Quiet s (left r d (on_text act text s))
text_quiet r d act h (rendered.Text t) s = h t s
text_quiet r d act h rendered.TooLong s = note_quiet r TextTooLong (word_of_key (key_of_act_kind d) (attribute_of_act_kind d)) s refl

at_quiet : (place : Option ℕ) (r : Rule) (name path : Text) (s : Scene) → Quiet s (tested_at place r name path s).0
at_quiet None r name path s = either s (is_there s.state.event (place_of s.state.event.device path)) (s, true) (noted r TestNotMade path s, false) refl (note_quiet r TestNotMade path s refl)
at_quiet (Some place) r name path s = refl

here_quiet : (r : Rule) (path : Text) (s : Scene) → Quiet s (tested_here r path s).0
here_quiet r path s =
    either s (is_somewhere s.state.event s.state.event.device path) (s, true) (cond {A = Scene × Bool} (is_not_read path s.state.event) (noted r TestNotMade path s, false) (s, false)) refl
    (either s (is_not_read path s.state.event) (noted r TestNotMade path s, false) (s, false) (note_quiet r TestNotMade path s refl) refl)

named_quiet : (n : Option NamedValue) (r : Rule) (path : Text) (s : Scene) → Quiet s (tested_by_udev n r path s).0
named_quiet None r path s = here_quiet r path s
named_quiet (Some n) r path s = at_quiet (named_place n s.state.event) r n.attribute path s

tested_by_quiet : (p : Profile) (r : Rule) (path : Text) (s : Scene) → Quiet s (tested_by p r path s).0
tested_by_quiet Manual r path s = refl
tested_by_quiet Udev r path s = named_quiet (named path) r path s

pub tested_quiet : (r : Rule) (mask : Option Text) (t : Text) (s : Scene) → Quiet s (tested r mask t s).0
tested_quiet r mask t s =
    either s (is_some mask || begins_with slash t) (noted r TestNotMade t s, false) (tested_by s.state.event.profile r t s) (note_quiet r TestNotMade t s refl) (tested_by_quiet s.state.event.profile r t s)

need_quiet : (r : Rule) (name : Text) (needs : List Text) (s : Scene) → Quiet s (needs_noted r name needs s)
need_quiet r name [] s = refl
need_quiet r name (need ∷ needs) s = note_quiet r BuiltinNeeds (needs_word name need needs) s refl

outcome_quiet : (r : Rule) (name : Text) (o : OutcomeValue) (properties : List Pair) (s : Scene) → Quiet s (outcome_set r name o properties s).0
outcome_quiet r name o properties s =
    let set : Scene = with_env (properties_set s.state.env properties) s in
    either s (nat_le (properties_size o.properties) most_set) (needs_noted r name o.needs set, o.is_done) (noted r TextTooLong name s, false) (need_quiet r name o.needs set) (note_quiet r TextTooLong name s refl)

taken_quiet : (r : Rule) (name : Text) (o : OutcomeValue) (s : Scene) → Quiet s (outcome_taken r name o s).0
taken_quiet r name o s = outcome_quiet r name o o.properties s

usb_quiet : (known : Known) (ran : Option Bool) (r : Rule) (s : Scene) → Quiet s (usb_id_run known ran r s).0
usb_quiet known None r s = taken_quiet r (builtin_name UsbId) (known.usb_id s.state.event (is_some (value_of s.state.env (codes "ID_BUS")))) s
usb_quiet known (Some done) r s = refl

path_quiet : (known : Known) (ran : Option Bool) (r : Rule) (s : Scene) → Quiet s (path_id_run known ran r s).0
path_quiet known None r s = taken_quiet r (builtin_name PathId) (known.path_id s.state.event) s
path_quiet known (Some done) r s = refl

answer_quiet : (r : Rule) (name : Text) (a : Option AnswerValue) (s : Scene) → Quiet s (from_answer_or_noted r BuiltinNotRun name a s).0
answer_quiet r name None s = note_quiet r BuiltinNotRun name s refl
answer_quiet r name (Some a) s = either s (a.status == 0) (with_env (properties_set s.state.env (printed_properties a.text)) s, true) (s, false) refl refl

builtin_quiet : (known : Known) (r : Rule) (t : Text) (b : Builtin) (s : Scene) → Quiet s (builtin_run known r t b s).0
builtin_quiet known r t (builtin.Hwdb h) s =
    let properties : List Pair = found known h s.state in
    need_quiet r (codes "hwdb") (lookup_needs s.state.event.profile s.state h properties) (taken properties s).0
builtin_quiet known r t builtin.InputId s = taken_quiet r (builtin_name InputId) (known.input_id s.state.event) s
builtin_quiet known r t builtin.NetId s =
    let names : OutcomeValue = known.net_id s.state.event s.state.env in
    outcome_quiet r (builtin_name NetId) names (with_maker (looked_up known (known.net_lookup s.state.event s.state.env)) names.properties) s
builtin_quiet known r t builtin.NetSetupLink s = taken_quiet r (builtin_name NetSetupLink) (known.net_setup_link s.state.event s.state.env) s
builtin_quiet known r t builtin.PathId s = path_quiet known s.ran.path_id r s
builtin_quiet known r t builtin.UsbId s = usb_quiet known s.ran.usb_id r s
builtin_quiet known r t builtin.SetsNothing s = refl
builtin_quiet known r t builtin.Fails s = refl
builtin_quiet known r t (builtin.Answered name) s = answer_quiet r name (value_of s.state.event.programs (builtin_question t)) s
builtin_quiet known r t (builtin.Other name) s = note_quiet r BuiltinNotRun name s refl
builtin_quiet known r t builtin.BadArguments s = note_quiet r BadHwdbArguments t s refl

parent_quiet : (names : _) (d : Option DeviceValue) (s : Scene) → Quiet s (from_parent names d s).0
parent_quiet names None s = refl
parent_quiet names (Some d) s = refl

built_quiet : (known : Known) (r : Rule) (d : ActKind) (text : Rendered) (s : Scene) → Quiet s (left r d (on_text (run_builtin known r) text s))
built_quiet known r d text s = text_quiet r d (run_builtin known r) (λ c u. builtin_quiet known r c _ u) text s

pub imported_quiet : (p : Profile) (known : Known) (r : Rule) (d : ActKind) (i : Import) (s : Scene) → p ≡ Manual → Quiet s (left r d (imported p known r i s))
imported_quiet Manual known r d (import.Builtin t) s m = built_quiet known r d _ s
imported_quiet Manual known r d (import.Parent names text) s m = parent_quiet names (device_at s.state.event 1) s
imported_quiet Manual known r d (import.Program t) s m = note_quiet r ImportNotRun (import_name import_of.Program) s refl
imported_quiet Manual known r d (import.File t) s m = note_quiet r ImportNotRun (import_name import_of.File) s refl
imported_quiet Manual known r d (import.Cmdline name) s m = note_quiet r ImportNotRun (import_name import_of.Cmdline) s refl
imported_quiet Manual known r d (import.Db name) s m = note_quiet r ImportNotRun (import_name import_of.Db) s refl
imported_quiet Udev known r d i s m = absurd (cc)

-- ---- matches

reached_quiet : (r : Rule) (k : PlainKey) (s : Scene) → Quiet s (match_reached r k s)
reached_quiet r (plain.Sysctl name) s = note_quiet r SysctlNotRead name s refl
reached_quiet r (plain.Attr name) s = by (is_not_read name s.state.event)
  where
    by : (b : Bool) → Quiet s (cond b (noted r AttributeNotRead name s) s)
    by true = note_quiet r AttributeNotRead name s refl
    by false = refl
reached_quiet r (plain.Const name) s = by (is_not_given name s.state.event)
  where
    by : (b : Bool) → Quiet s (cond b (noted r ConstantNotGiven name s) s)
    by true = note_quiet r ConstantNotGiven name s refl
    by false = refl
reached_quiet r k s = refl

pub if_proceeding_quiet : (f : Scene → Went) → ((s : Scene) → Quiet s (f s).0) → (s : Scene) (w : Went) → Quiet s w.0 → Quiet s (if_proceeding f w).0
if_proceeding_quiet f h s w k = by w.1
  where
    by : (b : Bool) → Quiet s (cond b (f w.0) w).0
    by true = h w.0 ∙ k
    by false = k

plain_quiet : (r : Rule) (part : PlainMatch) (s : Scene) → Quiet s (plain_step r part s).0
unfolding plain_step
plain_quiet r part s = reached_quiet r part.key s

plains_quiet : (r : Rule) (parts : List PlainMatch) (s : Scene) → Quiet s (walk (plain_step r) parts s).0
unfolding walk
plains_quiet r [] s = refl
plains_quiet r (part ∷ parts) s = if_proceeding_quiet (walk (plain_step r) parts) (plains_quiet r parts) s (plain_step r part s) (plain_quiet r part s)

search_quiet : (parts : List UpMatch) (s : Scene) → Quiet s (search parts s).0
search_quiet [] s = refl
search_quiet (part ∷ parts) s = refl

pub before_quiet : (r : Rule) (s : Scene) → Quiet s (searched r s).0
before_quiet r s = if_proceeding_quiet (search r.up) (search_quiet r.up) s (walk (plain_step r) r.plain s) (plains_quiet r r.plain s)

result_quiet : (part : Comparison) (s : Scene) → Quiet s (result_step part s).0
unfolding result_step
result_quiet part s = refl

pub results_quiet : (parts : List Comparison) (s : Scene) → Quiet s (walk result_step parts s).0
unfolding walk
results_quiet [] s = refl
results_quiet (part ∷ parts) s = if_proceeding_quiet (walk result_step parts) (results_quiet parts) s (result_step part s) (result_quiet part s)

-- ---- assignments by the manual

finally_quiet : (o : AssignOperator) (k : Option FinalKey) (s t : Scene) → Quiet s t → Quiet s (finally o k t)
finally_quiet AssignFinal (Some k) s t h = h
finally_quiet AssignFinal None s t h = h
finally_quiet o k s t h = h

joined_quiet : (r : Rule) (name : Text) (value : Option Text) (s : Scene) → Quiet s (property_joined r name value s)
joined_quiet r name None s = note_quiet r TextTooLong (word_of_key key.Env (Some name)) s refl
joined_quiet r name (Some value) s = refl

added_quiet : (r : Rule) (name t : Text) (s : Scene) → Quiet s (property_added r name t s)
added_quiet r name [] s = refl
added_quiet r name (b ∷ t) s = joined_quiet r name _ s

changed_quiet : (r : Rule) (o : AssignOperator) (name t : Text) (s : Scene) → Quiet s (property_changed r o name t s)
changed_quiet r Add name t s = added_quiet r name t s
changed_quiet r o name t s = refl

assigned_quiet : (r : Rule) (e : _) (o : AssignOperator) (about : Target) (written t : Text) (s : Scene) → Quiet s (assigned Manual about (given_by r e o about written) t s)
assigned_quiet r e o (target.Env name) written t s = changed_quiet r o name t s
assigned_quiet r e o about written t s = refl

given_quiet : (r : Rule) (e : _) (o : AssignOperator) (about : Target) (written t : Text) (s : Scene) → Quiet s (text_given Manual (given_by r e o about written) t s)
given_quiet r e o about written t s = by (is_ignored Manual about s)
  where
    by : (b : Bool) → Quiet s (cond b (noted r NameIgnored t s) (finally o (final_target about) (assigned Manual about (given_by r e o about written) t s)))
    by true = note_quiet r NameIgnored t s refl
    by false = finally_quiet o (final_target about) s (assigned Manual about (given_by r e o about written) t s) (assigned_quiet r e o about written t s)

set_text_quiet : (r : Rule) (e : _) (o : AssignOperator) (about : Target) (written : Text) (text : Rendered) (s : Scene) → Quiet s (text_set Manual (given_by r e o about written) text s)
set_text_quiet r e o about written (rendered.Text t) s = given_quiet r e o about written t s
set_text_quiet r e o about written rendered.TooLong s = note_quiet r TextTooLong (word_of_key (key_of_target about) (attribute_of_target about)) s refl

option_quiet : (known : RuleOption) (s : Scene) → Quiet s (with_option known s)
option_quiet (option.LinkPriority n) s = refl
option_quiet option.Watch s = refl
option_quiet option.NoWatch s = refl
option_quiet option.DbPersist s = refl
option_quiet known s = refl

by_quiet : (r : Rule) (o : AssignOperator) (c : Change) (s : Scene) → Quiet s (step_by Manual r o c s)
by_quiet r o (change.Option known) s = finally_quiet o _ s (with_option known s) (option_quiet known s)
by_quiet r o (change.Text about template) s = set_text_quiet r (escape_of r.sets) o about template.written _ s
by_quiet r o (change.Run braces template) s = finally_quiet o (Some final.Run) s (record s { runs = runs_after o s.runs (run_of r braces template s) }) refl

set_quiet : (r : Rule) (s : Scene) (a : Assignment) → s.state.event.profile ≡ Manual → Quiet s (set_step r s a)
unfolding set_step
set_quiet r s a m = by (is_settled (final_key s.state.event.profile a.change) s.finals)
  where
    by : (b : Bool) → Quiet s (cond b s (step_by s.state.event.profile r a.operator a.change s))
    by true = refl
    by false = subst (λ (p : Profile). Quiet s (step_by p r a.operator a.change s)) (sym m) (by_quiet r a.operator a.change s)

pub sets_quiet : (r : Rule) (sets : List Assignment) (s : Scene) → s.state.event.profile ≡ Manual → Quiet s (fold (set_step r) s sets)
sets_quiet r [] s m = refl
sets_quiet r (a ∷ sets) s m = sets_quiet r sets (set_step r s a) (ap (λ (e : EventValue). e.profile) (set_stays r a s) ∙ m) ∙ set_quiet r s a m
