-- A rule that is skipped changes nothing except for its notes, and which device is selected and which keys are final while it is looked at.
use Rattle.std.proofs.Common.{◌≡◌, ◌||◌, ℕ, Bool, true, false, cond, not, List, [], ◌∷◌, Option, Some, None, is_some, refl, ap, ◌∙◌}
use Rattle.std.specs.List.{fold, list_any}
use Rattle.text_bytes.specs.Names.{slash}
use Rattle.text_bytes.specs.Texts.{begins_with}
use Rattle.text_bytes.specs.declared.profile.Profile.{Profile}
use Rattle.text_bytes.specs.declared.profile.Profile.TheVariants.{Manual, Udev}
use Rattle.text_bytes.specs.Text.{Text}
use Rattle.builtin_devices.specs.Knowledge.{Known}
use Rattle.device_core.specs.Values.{EventValue, NumberValue}
use Rattle.rule_types.specs.Written.{attribute_of_target, key_of_target}
use Rattle.rule_types.specs.declared.roles.PlainKey.{PlainKey}
use Rattle.rule_types.specs.declared.roles.PlainKey.TheVariants as plain
use Rattle.rule_types.specs.declared.roles.AssignOperator.{AssignOperator}
use Rattle.rule_types.specs.declared.roles.AssignOperator.TheVariants.{Assign, AssignFinal}
use Rattle.rule_types.specs.declared.roles.Target.{Target}
use Rattle.rule_types.specs.declared.roles.Target.TheVariants as target
use Rattle.rule_types.specs.declared.part.Act.{Act}
use Rattle.rule_types.specs.declared.part.Assignment.{Assignment}
use Rattle.rule_types.specs.declared.part.Change.{Change}
use Rattle.rule_types.specs.declared.part.Change.TheVariants as change
use Rattle.rule_types.specs.declared.part.Comparison.{Comparison}
use Rattle.rule_types.specs.declared.part.ActKind.{ActKind}
use Rattle.rule_types.specs.declared.part.ActKind.TheVariants as act_kind
use Rattle.rule_types.specs.declared.part.PlainMatch.{PlainMatch}
use Rattle.rule_types.specs.declared.part.UpMatch.{UpMatch}
use Rattle.rule_types.specs.Rules.{Rule}
use Rattle.eval_rendering.specs.Bounds.{within}
use Rattle.eval_rendering.specs.Rendering.{render}
use Rattle.eval_rendering.specs.declared.rendered.Rendered.{Rendered}
use Rattle.eval_rendering.specs.declared.rendered.Rendered.TheVariants as rendered
use Rattle.eval_rendering.specs.Attributes.{is_not_read}
use Rattle.eval_rendering.specs.Subjects.{is_not_given}
use Rattle.eval_state.specs.Places.{is_there, place_of}
use Rattle.eval_state.specs.Named.{NamedValue, named, named_place}
use Rattle.eval_state.specs.Notes.{word_of_key}
use Rattle.eval_state.specs.Scenes.{noted, noted_key}
use Rattle.eval_state.specs.declared.finals.FinalKey.{FinalKey}
use Rattle.eval_state.specs.declared.finals.FinalKey.TheVariants.{Name}
use Rattle.eval_state.specs.declared.note_kind.NoteKind.TheVariants.{AttributeNotRead, ConstantNotGiven, NameIgnored, NoDeviceNumber, TestNotMade, TextTooLong}
use Rattle.eval_state.specs.declared.scene.Scene.{Scene}
use Rattle.eval_acts.specs.Acts.{act_step, on_text, performed}
use Rattle.eval_acts.specs.Inner.{left}
use Rattle.eval_acts.specs.Questions.{is_somewhere, tested, tested_at, tested_by, tested_by_udev, tested_here}
use Rattle.eval_acts.specs.Reaching.{match_reached}
use Rattle.eval_assignments.specs.Assigning.{assigned}
use Rattle.eval_assignments.specs.Bounds.{most_bytes_of}
use Rattle.eval_assignments.specs.Escapes.{escape_of, mode_of}
use Rattle.eval_assignments.specs.Finality.{final_key, final_target, finally, is_settled}
use Rattle.eval_assignments.specs.Givens.{Given}
use Rattle.eval_assignments.specs.Inner.{given_by}
use Rattle.eval_assignments.specs.Names.{is_interface}
use Rattle.eval_assignments.specs.Steps.{emptied, lacks_number, set_step, step_by, text_rendered, text_set, text_step}
use Rattle.eval_assignments.specs.declared.escapes.Escape.{Escape}
use Rattle.eval_rules.specs.Idle.{act_kind_counts, applies, change_applies, change_counts, is_idle, is_idle_by, note_all, note_step}
use Rattle.eval_rules.specs.Steps.{Went, only_noted, if_proceeding, plain_step, result_step, search, before_sets, walk, with_selected}

-- a scene with the notes, the final keys and the selected device of another
abbrev pub stilled : Scene → Scene → Scene
stilled s t = record t { notes = s.notes; finals = s.finals; state = with_selected s.state.selected t.state }

-- one scene is another except for these
abbrev pub Still : Scene → Scene → Type 0
Still s t = stilled s t ≡ s

-- one scene after another
pub then_still : (s t u : Scene) → Still t u → Still s t → Still s u
then_still s t u h k = ap (stilled s) h ∙ k

either : (s : Scene) (c : Bool) (x y : Scene × Bool) → Still s x.0 → Still s y.0 → Still s (cond c x y).0
either s true x y h k = h
either s false x y h k = k

-- ---- steps

if_proceeding_still : (f : Scene → Went) → ((s : Scene) → Still s (f s).0) → (s : Scene) (w : Went) → Still s w.0 → Still s (if_proceeding f w).0
if_proceeding_still f h s w k = by w.1
  where
    by : (b : Bool) → Still s (cond b (f w.0) w).0
    by true = then_still s w.0 (f w.0).0 (h w.0) k
    by false = k

walk_still : {P : Type 0} (step : P → Scene → Went) → ((p : P) (s : Scene) → Still s (step p s).0) → (ps : List P) (s : Scene) → Still s (walk step ps s).0
unfolding walk
walk_still step h [] s = refl
walk_still step h (p ∷ ps) s = if_proceeding_still (walk step ps) (walk_still step h ps) s (step p s) (h p s)

-- ---- matches

reached_still : (r : Rule) (k : PlainKey) (s : Scene) → Still s (match_reached r k s)
reached_still r (plain.Sysctl name) s = refl
reached_still r (plain.Attr name) s = by (is_not_read name s.state.event)
  where
    by : (b : Bool) → Still s (cond b (noted r AttributeNotRead name s) s)
    by true = refl
    by false = refl
reached_still r (plain.Const name) s = by (is_not_given name s.state.event)
  where
    by : (b : Bool) → Still s (cond b (noted r ConstantNotGiven name s) s)
    by true = refl
    by false = refl
reached_still r k s = refl

plain_still : (r : Rule) (part : PlainMatch) (s : Scene) → Still s (plain_step r part s).0
unfolding plain_step
plain_still r part s = reached_still r part.key s

result_still : (part : Comparison) (s : Scene) → Still s (result_step part s).0
unfolding result_step
result_still part s = refl

search_still : (parts : List UpMatch) (s : Scene) → Still s (search parts s).0
search_still [] s = refl
search_still (part ∷ parts) s = refl

-- ---- acts that do not count

at_still : (place : Option ℕ) (r : Rule) (name path : Text) (s : Scene) → Still s (tested_at place r name path s).0
at_still None r name path s = either s (is_there s.state.event (place_of s.state.event.device path)) (s, true) (noted r TestNotMade path s, false) refl refl
at_still (Some place) r name path s = refl

here_still : (r : Rule) (path : Text) (s : Scene) → Still s (tested_here r path s).0
here_still r path s =
    either s (is_somewhere s.state.event s.state.event.device path) (s, true) (cond {A = Scene × Bool} (is_not_read path s.state.event) (noted r TestNotMade path s, false) (s, false)) refl
    (either s (is_not_read path s.state.event) (noted r TestNotMade path s, false) (s, false) refl refl)

named_still : (n : Option NamedValue) (r : Rule) (path : Text) (s : Scene) → Still s (tested_by_udev n r path s).0
named_still None r path s = here_still r path s
named_still (Some n) r path s = at_still (named_place n s.state.event) r n.attribute path s

by_still : (p : Profile) (r : Rule) (path : Text) (s : Scene) → Still s (tested_by p r path s).0
by_still Manual r path s = refl
by_still Udev r path s = named_still (named path) r path s

tested_still : (r : Rule) (mask : Option Text) (t : Text) (s : Scene) → Still s (tested r mask t s).0
tested_still r mask t s = either s (is_some mask || begins_with slash t) (noted r TestNotMade t s, false) (tested_by s.state.event.profile r t s) refl (by_still s.state.event.profile r t s)

shown_still : (r : Rule) (d : ActKind) (act : Text → Scene → Scene × Bool) → ((t : Text) (s : Scene) → Still s (act t s).0) → (text : Rendered) (s : Scene) → Still s (left r d (on_text act text s))
shown_still r d act h (rendered.Text t) s = h t s
shown_still r d act h rendered.TooLong s = refl

performed_still : (known : Known) (r : Rule) (d : ActKind) (s : Scene) → act_kind_counts d ≡ false → Still s (left r d (performed known r d s))
performed_still known r (act_kind.Test mask t) s h = shown_still r (act_kind.Test mask t) (tested r mask) (tested_still r mask) _ s
performed_still known r (act_kind.Program t) s h = cc h
performed_still known r (act_kind.Import i) s h = cc h

act_still : (known : Known) (r : Rule) (act : Act) (s : Scene) → act_kind_counts act.kind ≡ false → Still s (act_step known r act s).0
unfolding act_step
act_still known r act s h = performed_still known r act.kind s h

neither_first : (a b : Bool) → (a || b) ≡ false → a ≡ false
neither_first false b h = refl
neither_first true b h = h

neither_second : (a b : Bool) → (a || b) ≡ false → b ≡ false
neither_second false b h = h
neither_second true b h = cc h

acts_still : (known : Known) (r : Rule) (acts : List Act) (s : Scene) → list_any (λ act. act_kind_counts act.kind) acts ≡ false → Still s (walk (act_step known r) acts s).0
unfolding walk
acts_still known r [] s h = refl
acts_still known r (act ∷ acts) s h =
    if_proceeding_still (walk (act_step known r) acts) (λ t. acts_still known r acts t (neither_second (act_kind_counts act.kind) _ h)) s (act_step known r act s)
    (act_still known r act s (neither_first (act_kind_counts act.kind) _ h))

-- ---- assignments whose keys do not apply to the device

final_still : (o : AssignOperator) (k : Option FinalKey) (s t : Scene) → Still s t → Still s (finally o k t)
final_still AssignFinal None s t h = h
final_still AssignFinal (Some k) s t h = h
final_still o k s t h = h

-- a key of the node, of a device without a number
lacking : (g : Given) (template : _) (s : Scene) → lacks_number g.target s.state.event.device.number ≡ true → Still s (text_step Udev g template s)
lacking g template s h = by (lacks_number g.target s.state.event.device.number) h
  where
    by : (b : Bool) → b ≡ true → Still s (cond b (noted_key g.rule NoDeviceNumber (key_of_target g.target) (attribute_of_target g.target) s) (text_rendered Udev g template (emptied g.operator g.target s)))
    by true h = refl
    by false h = cc h

no_number : (n : Option NumberValue) → is_some n ≡ false → n ≡ None
no_number None h = refl
no_number (Some n) h = cc h

-- a name of no interface
name_set : (r : Rule) (e : Escape) (o : AssignOperator) (written : Text) (text : Rendered) (s : Scene) → is_interface s.state.event.device ≡ false → Still s (text_set Udev (given_by r e o target.Name written) text s)
name_set r e o written (rendered.Text t) s h = by (is_interface s.state.event.device) h
  where
    by : (b : Bool) → b ≡ false → Still s (cond (not b) (noted r NameIgnored t s) (finally o (final_target target.Name) (assigned Udev target.Name (given_by r e o target.Name written) t s)))
    by false h = refl
    by true h = cc h
name_set r e o written rendered.TooLong s h = final_still o (Some Name) s (noted r TextTooLong (word_of_key (key_of_target target.Name) (attribute_of_target target.Name)) s) refl

none_emptied : (o : AssignOperator) (s : Scene) → emptied o target.Name s ≡ s
none_emptied Assign s = refl
none_emptied AssignFinal s = refl
none_emptied o s = refl

name_still : (r : Rule) (e : Escape) (o : AssignOperator) (written : Text) (template : _) (s : Scene) → is_interface s.state.event.device ≡ false → Still s (text_step Udev (given_by r e o target.Name written) template s)
name_still r e o written template s h = by (lacks_number target.Name s.state.event.device.number)
  where
    by : (b : Bool) → Still s (cond b (noted_key r NoDeviceNumber (key_of_target target.Name) (attribute_of_target target.Name) s) (text_rendered Udev (given_by r e o target.Name written) template (emptied o target.Name s)))
    by true = refl
    by false =
        ap (λ t. stilled s (text_rendered Udev (given_by r e o target.Name written) template t)) (none_emptied o s)
        ∙ name_set r e o written (within (most_bytes_of target.Name) (render template s.state (mode_of Udev target.Name e))) s h

text_still : (r : Rule) (e : Escape) (o : AssignOperator) (about : Target) (written : Text) (template : _) (s : Scene) → applies about s.state.event.device ≡ false → Still s (text_step Udev (given_by r e o about written) template s)
text_still r e o target.Owner written template s h = lacking (given_by r e o target.Owner written) template s (ap (lacks_number target.Owner) (no_number s.state.event.device.number h))
text_still r e o target.Group written template s h = lacking (given_by r e o target.Group written) template s (ap (lacks_number target.Group) (no_number s.state.event.device.number h))
text_still r e o target.Mode written template s h = lacking (given_by r e o target.Mode written) template s (ap (lacks_number target.Mode) (no_number s.state.event.device.number h))
text_still r e o target.Symlink written template s h = lacking (given_by r e o target.Symlink written) template s (ap (lacks_number target.Symlink) (no_number s.state.event.device.number h))
text_still r e o target.Name written template s h = name_still r e o written template s h
text_still r e o about written template s h = cc h

change_still : (r : Rule) (o : AssignOperator) (c : Change) (s : Scene) → change_applies c s.state.event.device ≡ false → Still s (step_by Udev r o c s)
change_still r o (change.Text about template) s h = text_still r (escape_of r.sets) o about template.written template s h
change_still r o (change.Option known) s h = cc h
change_still r o (change.Run braces template) s h = cc h

set_still : (r : Rule) (a : Assignment) (s : Scene) → s.state.event.profile ≡ Udev → change_applies a.change s.state.event.device ≡ false → Still s (set_step r s a)
unfolding set_step
set_still r a s udev h = ap (λ p. stilled s (cond (is_settled (final_key p a.change) s.finals) s (step_by p r a.operator a.change s))) udev ∙ by (is_settled (final_key Udev a.change) s.finals)
  where
    by : (b : Bool) → Still s (cond b s (step_by Udev r a.operator a.change s))
    by true = refl
    by false = change_still r a.operator a.change s h

-- an assignment that is not made
pub note_still : (r : Rule) (a : Assignment) (s : Scene) → s.state.event.profile ≡ Udev → Still s (note_step r s a)
note_still r a s udev = by (change_applies a.change s.state.event.device) refl
  where
    by : (b : Bool) → change_applies a.change s.state.event.device ≡ b → Still s (cond b s (set_step r s a))
    by true h = refl
    by false h = set_still r a s udev h

-- the event stays
pub same_event : (s t : Scene) → Still s t → t.state.event ≡ s.state.event
same_event s t h = ap (λ (u : Scene). u.state.event) h

notes_still : (r : Rule) (sets : List Assignment) (s : Scene) → s.state.event.profile ≡ Udev → Still s (fold (note_step r) s sets)
notes_still r [] s udev = refl
notes_still r (a ∷ sets) s udev =
    let t : Scene = note_step r s a in
    let h : Still s t = note_still r a s udev in
    then_still s t (fold (note_step r) t sets) (notes_still r sets t (ap (λ (e : EventValue). e.profile) (same_event s t h) ∙ udev)) h

-- ---- a rule

-- a rule is skipped only by udev
pub by_udev : (p : Profile) (r : Rule) (event : EventValue) → is_idle_by p r event ≡ true → p ≡ Udev
unfolding is_idle_by
by_udev Manual r event h = cc h
by_udev Udev r event h = refl

-- in a rule that is skipped no act counts
no_act_counts : (p : Profile) (r : Rule) (event : EventValue) → is_idle_by p r event ≡ true → list_any (λ act. act_kind_counts act.kind) r.acts ≡ false
unfolding is_idle_by
no_act_counts Manual r event h = cc h
no_act_counts Udev r event h = by (is_some r.goto) (list_any (λ act. act_kind_counts act.kind) r.acts) (list_any (λ a. change_counts a.change event) r.sets) h
  where
    by : (a b c : Bool) → not (a || (b || c)) ≡ true → b ≡ false
    by true b c h = cc h
    by false true c h = cc h
    by false false c h = refl

tried_still : (known : Known) (r : Rule) (s : Scene) → list_any (λ act. act_kind_counts act.kind) r.acts ≡ false → Still s (before_sets known r s).0
tried_still known r s h =
    if_proceeding_still (walk result_step r.results) (walk_still result_step result_still r.results) s _
    (if_proceeding_still (walk (act_step known r) r.acts) (λ t. acts_still known r r.acts t h) s _
    (if_proceeding_still (search r.up) (search_still r.up) s _
    (walk_still (plain_step r) (plain_still r) r.plain s)))

-- its keys
pub tried_idle : (known : Known) (r : Rule) (s : Scene) → is_idle r s.state.event ≡ true → Still s (before_sets known r s).0
tried_idle known r s idle = tried_still known r s (no_act_counts s.state.event.profile r s.state.event idle)

end_still : (r : Rule) (s : Scene) (w : Went) → s.state.event.profile ≡ Udev → Still s w.0 → Still s (if_proceeding (note_all r) w).0
end_still r s w udev h = by w.1
  where
    by : (b : Bool) → Still s (cond b (note_all r w.0) w).0
    by true = then_still s w.0 (fold (note_step r) w.0 r.sets) (notes_still r r.sets w.0 (ap (λ (e : EventValue). e.profile) (same_event s w.0 h) ∙ udev)) h
    by false = h

-- its keys and its end
pub noted_still : (known : Known) (r : Rule) (s : Scene) → is_idle r s.state.event ≡ true → Still s (if_proceeding (note_all r) (before_sets known r s)).0
noted_still known r s idle = end_still r s (before_sets known r s) (by_udev s.state.event.profile r s.state.event idle) (tried_idle known r s idle)

-- all that it leaves is notes
pub still_noted : (s t : Scene) → Still s t → (record t { finals = s.finals; state = with_selected s.state.selected t.state }) ≡ (record s { notes = t.notes })
still_noted s t h = ap (λ (u : Scene). record u { notes = t.notes }) h

-- a rule that is skipped, once the device is selected again that was selected before, and the keys are final again that were so before
pub passed_is : (known : Known) (r : Rule) (s t u : Scene) (on : Bool) → is_idle r s.state.event ≡ true → (t, on) ≡ before_sets known r s → u ≡ (if_proceeding (note_all r) (t, on)).0
    → (record u { finals = s.finals; state = with_selected s.state.selected u.state }, false) ≡ only_noted known r s
passed_is known r s t u on idle to made =
    let whole : u ≡ (if_proceeding (note_all r) (before_sets known r s)).0 = made ∙ ap (λ (w : Went). (if_proceeding (note_all r) w).0) to in
    let still : Still s u = ap (stilled s) whole ∙ noted_still known r s idle in
    ap (λ (v : Scene). (v, false)) (still_noted s u still ∙ ap (λ (v : Scene). record s { notes = v.notes }) whole)
